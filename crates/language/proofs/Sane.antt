-- What form gives at each assignment: its expression is sized, and all that it and the conditions around read is there.
use Rattle.std.proofs.Common.{◌≡◌, ℕ, ◌≤◌, Bool, true, false, not, ◌||◌, List, [], ◌∷◌, ◌++◌, sym, ap, ◌∙◌, ⊎_elim, arith}
use Rattle.std.proofs.lemmas.Bool.{cases_lt, lt-ltb, both_ways, or_cases}
use Rattle.std.proofs.lemmas.List.{get_or_past}
use Rattle.lattice.specs.Meaning.{All}
use Rattle.language.specs.Syntax.{Expr, Cmd, Label, Design, Variable, constant, variable, complement, binary, shift_left, shift_right, part, above, choose, idle, seq, choice, assign, fixed, looked_up, nothing, count, var, vars}
use Rattle.language.specs.Machine.{inside, held, is_wire_kind}
use Rattle.language.specs.Form.{Way, Each, Every, assigns, Reads, Settles, Settling, Clocks, Formed}
use Rattle.language.specs.Typing.{Shape, number, single, other, shape, sources, around}
use Rattle.lattice.proofs.Lists.{all_weaker, all_append}
use Rattle.language.proofs.Walks.{each_weaker, every_weaker, each_assigned}
use Rattle.language.proofs.Values.{all_sources}

pub var_none : (d : Design) (v : ℕ) → count d ≤ v → var d v ≡ nothing
var_none d v h = get_or_past d.variables v nothing h

pub record Sane (d : Design) (path : List Way) (u : ℕ) (e : Expr) : Type 0 where
  pub source : Reads d (inside d) (var d u).width e
  pub conditions : All (λ v. inside d v ≡ true) (around path)

-- a single variable has the width of its target
abbrev pub Suits : Design → ℕ → Shape → Type 0
Suits d u (number n) = Unit
Suits d u (single v) = (inside d v ≡ true) × ((var d v).width ≡ (var d u).width)
Suits d u other = Unit

module _ (d : Design) where
  abbrev pub Inner : Expr → Type 0
  Inner e = Reads d (inside d) 1 e

  abbrev Source : List Way → ℕ → Expr → Type 0
  Source path u e = Reads d (inside d) (var d u).width e

  sane : (path : List Way) (c : Cmd) → All (λ v. inside d v ≡ true) (around path) → Each Inner Source path c → Each Inner (Sane d) path c
  sane path idle k h = tt
  sane path (seq a b) k h = (sane path a k h.0, sane path b k h.1)
  sane path (choice e a b) k h =
      let more : All (λ v. inside d v ≡ true) (sources e ++ around path) =
      all_append (λ v. inside d v ≡ true) (sources e) (around path) (all_sources (λ v. inside d v ≡ true) e h.0.reads) k in
      (h.0, sane ((e, true) ∷ path) a more h.1, sane ((e, false) ∷ path) b more h.2)
  sane path (assign u e place) k h = record { source = h; conditions = k }

  every_sane : (cs : List Cmd) → Every Inner Source cs → Every Inner (Sane d) cs
  every_sane [] h = tt
  every_sane (c ∷ cs) h = (sane [] c tt h.0, every_sane cs h.1)

  wider : (known : ℕ → Bool) → ((v : ℕ) → known v ≡ true → inside d v ≡ true) → (w : ℕ) (e : Expr) → Reads d known w e → Reads d (inside d) w e
  wider known sub w e r = record { sized = r.sized; wide = r.wide; reads = all_weaker (λ v. known v ≡ true) (λ v. inside d v ≡ true) sub (vars e) r.reads }

  settling_inner : (known : ℕ → Bool) → ((v : ℕ) → known v ≡ true → inside d v ≡ true) → (cs : List Cmd) → Settling d known cs → Every Inner Source cs
  settling_inner known sub [] h = tt
  settling_inner known sub (c ∷ cs) h = (
    each_weaker (Reads d known 1) Inner (λ path. Settles d known c) Source (wider known sub 1) (λ path u e s. wider known sub (var d u).width e s.source) [] c h.0,
    settling_inner (λ v. known v || assigns c v) (λ v k. ⊎_elim (sub v)
        (λ p. (each_assigned (Reads d known 1) (λ path. Settles d known c) v [] c h.0 p).2.target) (or_cases (known v) (assigns c v) k)) cs h.2,
  )

  held_inside : (v : ℕ) → held d v ≡ true → inside d v ≡ true
  held_inside v h =
      ⊎_elim (λ p. lt-ltb v (count d) p)
      (λ p. absurd (both_ways (held d v) (ap (λ (x : Variable). not (is_wire_kind x.kind)) (var_none d v p)) h)) (cases_lt v (count d))

  pub suits : (u : ℕ) (e : Expr) → Reads d (inside d) (var d u).width e → Suits d u (shape e)
  suits u (constant w n) r = tt
  suits u (variable w v place) r = (r.reads.0, sym r.sized ∙ r.wide)
  suits u (complement w a) r = tt
  suits u (binary w o a b) r = tt
  suits u (shift_left w a n) r = tt
  suits u (shift_right w a n) r = tt
  suits u (part w n a) r = tt
  suits u (above w a b) r = tt
  suits u (choose w c a b) r = tt

  -- a variable whose label is looked up is there
  pub label_inside : (v t s : ℕ) → (var d v).label ≡ looked_up t s → inside d v ≡ true
  label_inside v t s e =
      ⊎_elim (λ p. lt-ltb v (count d) p)
      (λ p. absurd (never (var d v).label t s e (ap (λ (x : Variable). x.label) (var_none d v p)))) (cases_lt v (count d))
    where
      never : (l : Label) (t s : ℕ) → l ≡ looked_up t s → l ≡ fixed 0 → ⊥
      never l t s p q = let z : ◌≡◌ {A = ℕ} 0 1 = cc in omega arith

  module _ (formed : Formed d) where
    pub settled_sane : Every Inner (Sane d) d.settled
    settled_sane = every_sane d.settled (settling_inner (held d) held_inside d.settled formed.settling)

    pub clocked_sane : Every Inner (Sane d) d.clocked
    clocked_sane =
        every_sane d.clocked (every_weaker Inner Inner (λ path. Clocks d) Source (λ e h. h) (λ path u e s. s.source) d.clocked formed.clocking)
