-- Which variables an expression and a path read.
use Rattle.std.proofs.Common.{◌≡◌, ℕ, Bool, true, ◌||◌, List, [], ◌∷◌, ◌++◌, sym, inl, inr, ⊎_elim}
use Rattle.std.proofs.lemmas.Bool.{eq-eqb, eqb-true, true≢false, or_cases, or_left, or_right}
use Rattle.language.specs.Syntax.{Expr, constant, variable, complement, binary, shift_left, shift_right, part, above, choose, vars}
use Rattle.language.specs.Form.{Way}
use Rattle.language.specs.Typing.{sources, around}
use Rattle.language.specs.Finite.{mentions, among}
use Rattle.language.proofs.Lists.{Mem, mem_left, mem_right, mem_split}

both : (v : ℕ) (a b : Bool) (xs ys : List ℕ) → (a ≡ true → Mem v xs) → (b ≡ true → Mem v ys) → (a || b) ≡ true → Mem v (xs ++ ys)
both v a b xs ys f g h = ⊎_elim (λ p. mem_left v xs ys (f p)) (λ p. mem_right v xs ys (g p)) (or_cases a b h)

back : (v : ℕ) (a b : Bool) (xs ys : List ℕ) → (Mem v xs → a ≡ true) → (Mem v ys → b ≡ true) → Mem v (xs ++ ys) → (a || b) ≡ true
back v a b xs ys f g h = ⊎_elim (λ p. or_left a b (f p)) (λ p. or_right a b (g p)) (mem_split v xs ys h)

pub mention_mem : (e : Expr) (v : ℕ) → mentions e v ≡ true → Mem v (sources e)
mention_mem (constant w n) v h = absurd (true≢false (sym h))
mention_mem (variable w u place) v h = inl (eqb-true u v h)
mention_mem (complement w a) v h = mention_mem a v h
mention_mem (binary w o a b) v h = both v (mentions a v) (mentions b v) (vars a) (vars b) (mention_mem a v) (mention_mem b v) h
mention_mem (shift_left w a n) v h = mention_mem a v h
mention_mem (shift_right w a n) v h = mention_mem a v h
mention_mem (part w n a) v h = mention_mem a v h
mention_mem (above w a b) v h = both v (mentions a v) (mentions b v) (vars a) (vars b) (mention_mem a v) (mention_mem b v) h
mention_mem (choose w c a b) v h =
    both v (mentions c v) (mentions a v || mentions b v) (vars c) (vars a ++ vars b) (mention_mem c v)
    (both v (mentions a v) (mentions b v) (vars a) (vars b) (mention_mem a v) (mention_mem b v)) h

pub mem_mention : (e : Expr) (v : ℕ) → Mem v (sources e) → mentions e v ≡ true
mem_mention (constant w n) v h = absurd h
mem_mention (variable w u place) v (inl e) = eq-eqb u v e
mem_mention (variable w u place) v (inr h) = absurd h
mem_mention (complement w a) v h = mem_mention a v h
mem_mention (binary w o a b) v h = back v (mentions a v) (mentions b v) (vars a) (vars b) (mem_mention a v) (mem_mention b v) h
mem_mention (shift_left w a n) v h = mem_mention a v h
mem_mention (shift_right w a n) v h = mem_mention a v h
mem_mention (part w n a) v h = mem_mention a v h
mem_mention (above w a b) v h = back v (mentions a v) (mentions b v) (vars a) (vars b) (mem_mention a v) (mem_mention b v) h
mem_mention (choose w c a b) v h =
    back v (mentions c v) (mentions a v || mentions b v) (vars c) (vars a ++ vars b) (mem_mention c v)
    (back v (mentions a v) (mentions b v) (vars a) (vars b) (mem_mention a v) (mem_mention b v)) h

pub among_mem : (path : List Way) (v : ℕ) → among path v ≡ true → Mem v (around path)
among_mem [] v h = absurd (true≢false (sym h))
among_mem (c ∷ path) v h = both v (mentions c.0 v) (among path v) (sources c.0) (around path) (mention_mem c.0 v) (among_mem path v) h

pub mem_among : (path : List Way) (v : ℕ) → Mem v (around path) → among path v ≡ true
mem_among [] v h = absurd h
mem_among (c ∷ path) v h = back v (mentions c.0 v) (among path v) (sources c.0) (around path) (mem_mention c.0 v) (mem_among path v) h

pub flow_mem : (e : Expr) (path : List Way) (v : ℕ) → (mentions e v || among path v) ≡ true → Mem v (sources e ++ around path)
flow_mem e path v h = both v (mentions e v) (among path v) (sources e) (around path) (mention_mem e v) (among_mem path v) h

pub mem_flow : (e : Expr) (path : List Way) (v : ℕ) → Mem v (sources e ++ around path) → (mentions e v || among path v) ≡ true
mem_flow e path v h = back v (mentions e v) (among path v) (sources e) (around path) (mem_mention e v) (mem_among path v) h
