-- What holds of the values of expressions.
use Rattle.std.proofs.Common.{◌≡◌, ℕ, ◌+◌, ◌-◌, ◌*◌, ◌/◌, ◌^◌, ◌<◌, Bool, true, false, not, ◌&&◌, ◌||◌, eqb, ltb, ◌⊎◌, List, ◌++◌, sym, refl, ap, ◌∙◌, subst, ap₂, inl, inr, ⊎_elim, lt_of_le_of_lt, mod-lt, arith, pow_pos}
use mathlib.Core.Bool.{not-not}
use lib.Bits.{bit_and, bit_or, bit_xor, and_lt, or_lt, xor_lt}
use lib.Pow.{ones_sub-lt, shr_le}
use Rattle.std.proofs.lemmas.Bool.{eq-eqb, ne_eqb, eqb-true, cases_eq, cond_both, and_parts, and_from, and_cases, or_cases, or_parts, or_left, or_right}
use Rattle.lattice.specs.Meaning.{All}
use Rattle.language.specs.Syntax.{Op, Expr, Design, and, or, xor, sum, difference, equals, less, constant, variable, complement, binary, shift_left, shift_right, part, above, choose, width, vars}
use Rattle.language.specs.Vectors.{bit, complemented, operated, shifted_left, shifted_right, part_from, joined_above, chosen}
use Rattle.language.specs.Machine.{Valuation, eval}
use Rattle.language.specs.Form.{Sized, of_op}
use Rattle.language.specs.Typing.{Fits, Shape, number, single, other, shape, pins, equates, leaves, sources, Coming}
use Rattle.lattice.proofs.Lists.{all_left, all_right}

-- an expression's value depends on the variables that it reads
abbrev pub Agree : Valuation → Valuation → List ℕ → Type 0
Agree ρ σ vs = All (λ v. ρ v ≡ σ v) vs

module _ (ρ σ : Valuation) where
  left_part : (xs ys : List ℕ) → Agree ρ σ (xs ++ ys) → Agree ρ σ xs
  left_part = all_left (λ v. ρ v ≡ σ v)

  right_part : (xs ys : List ℕ) → Agree ρ σ (xs ++ ys) → Agree ρ σ ys
  right_part = all_right (λ v. ρ v ≡ σ v)

  eval_agree : (e : Expr) → Agree ρ σ (vars e) → eval ρ e ≡ eval σ e
  eval_agree (constant w n) h = refl
  eval_agree (variable w v place) h = h.0
  eval_agree (complement w a) h = ap (complemented w) (eval_agree a h)
  eval_agree (binary w o a b) h = ap₂ (operated w o) (eval_agree a (left_part (vars a) (vars b) h)) (eval_agree b (right_part (vars a) (vars b) h))
  eval_agree (shift_left w a k) h = ap (λ x. shifted_left w x k) (eval_agree a h)
  eval_agree (shift_right w a k) h = ap (λ x. shifted_right x k) (eval_agree a h)
  eval_agree (part w k a) h = ap (part_from w k) (eval_agree a h)
  eval_agree (above w a b) h = ap₂ (joined_above w (width b)) (eval_agree a (left_part (vars a) (vars b) h)) (eval_agree b (right_part (vars a) (vars b) h))
  eval_agree (choose w c a b) h =
      let k = right_part (vars c) (vars a ++ vars b) h in
      let p = eval_agree c (left_part (vars c) (vars a ++ vars b) h) in
      let q = eval_agree a (left_part (vars a) (vars b) k) in
      let r = eval_agree b (right_part (vars a) (vars b) k) in
      ap (λ z. chosen z (eval ρ a) (eval ρ b)) p ∙ ap₂ (chosen (eval σ c)) q r

-- what is read through `sources` decides the value
pub eval_sources : (ρ σ : Valuation) (e : Expr) → Agree ρ σ (sources e) → eval ρ e ≡ eval σ e
eval_sources ρ σ e h = eval_agree ρ σ e h

pub all_sources : (P : ℕ → Type 0) (e : Expr) → All P (vars e) → All P (sources e)
all_sources P e h = h

-- an expression's value fits its width
bit_fits : (b : Bool) → bit b < 2 ^ 1
bit_fits true = omega arith
bit_fits false = omega arith

-- w is the operation's own width, n that of its parts
operated_fits : (o : Op) (w n x y : ℕ) → w ≡ of_op o n → x < 2 ^ n → y < 2 ^ n → operated w o x y < 2 ^ w
operated_fits and w n x y e h k = subst (λ i. bit_and x y < 2 ^ i) (sym e) (and_lt n x y h k)
operated_fits or w n x y e h k = subst (λ i. bit_or x y < 2 ^ i) (sym e) (or_lt n x y h k)
operated_fits xor w n x y e h k = subst (λ i. bit_xor x y < 2 ^ i) (sym e) (xor_lt n x y h k)
operated_fits sum w n x y e h k = mod-lt (x + y) (pow_pos w)
operated_fits difference w n x y e h k = mod-lt (x + 2 ^ w - y) (pow_pos w)
operated_fits equals w n x y e h k = subst (λ i. bit (eqb x y) < 2 ^ i) (sym e) (bit_fits (eqb x y))
operated_fits less w n x y e h k = subst (λ i. bit (ltb x y) < 2 ^ i) (sym e) (bit_fits (ltb x y))

-- numbers below 2 as bits
bit_cases : (x : ℕ) → x < 2 → (x ≡ 0) ⊎ (x ≡ 1)
bit_cases x h = ⊎_elim (λ p. inl p) (λ p. inr (omega arith)) (cases_eq x 0)

bit_one : (b : Bool) → eqb (bit b) 1 ≡ b
bit_one true = refl
bit_one false = refl

eqb_swap : (x y : ℕ) → eqb x y ≡ eqb y x
eqb_swap x y = ⊎_elim (λ p. eq-eqb x y p ∙ sym (eq-eqb y x (sym p))) (λ p. ne_eqb x y p ∙ sym (ne_eqb y x (λ q. p (sym q)))) (cases_eq x y)

-- what holds of 0 and 1 holds of each number below 2
of_bits : (P : ℕ → Type 0) → P 0 → P 1 → (x : ℕ) → x < 2 → P x
of_bits P zero' one x h = ⊎_elim (λ (p : x ≡ 0). subst P (sym p) zero') (λ (p : x ≡ 1). subst P (sym p) one) (bit_cases x h)

and_bit : (x y : ℕ) → x < 2 → y < 2 → eqb (bit_and x y) 1 ≡ (eqb x 1 && eqb y 1)
and_bit x y h k =
    of_bits (λ x. eqb (bit_and x y) 1 ≡ (eqb x 1 && eqb y 1)) refl (of_bits (λ y. eqb (bit_and 1 y) 1 ≡ (eqb 1 1 && eqb y 1)) refl refl y k) x h

or_bit : (x y : ℕ) → x < 2 → y < 2 → eqb (bit_or x y) 1 ≡ (eqb x 1 || eqb y 1)
or_bit x y h k =
    of_bits (λ x. eqb (bit_or x y) 1 ≡ (eqb x 1 || eqb y 1)) refl (of_bits (λ y. eqb (bit_or 1 y) 1 ≡ (eqb 1 1 || eqb y 1)) refl refl y k) x h

complement_bit : (w x : ℕ) → w ≡ 1 → x < 2 → eqb (complemented w x) 1 ≡ not (eqb x 1)
complement_bit w x e h = rw e (of_bits (λ x. eqb (complemented 1 x) 1 ≡ not (eqb x 1)) refl refl x h)

module _ (d : Design) (ρ : Valuation) (fits : Fits d ρ) where
  pub eval_fits : (e : Expr) → Sized d e → eval ρ e < 2 ^ width e
  eval_fits (constant w n) h = h
  eval_fits (variable w v place) h = subst (λ k. ρ v < 2 ^ k) (sym h) (fits v)
  eval_fits (complement w a) h = ones_sub-lt w (eval ρ a)
  eval_fits (binary w o a b) h =
      operated_fits o w (width a) (eval ρ a) (eval ρ b) h.3 (eval_fits a h.0) (subst (λ k. eval ρ b < 2 ^ k) (sym h.2) (eval_fits b h.1))
  eval_fits (shift_left w a k) h = mod-lt (eval ρ a * 2 ^ k) (pow_pos w)
  eval_fits (shift_right w a k) h = lt_of_le_of_lt (shr_le (eval ρ a) k) (subst (λ n. eval ρ a < 2 ^ n) h.1 (eval_fits a h.0))
  eval_fits (part w k a) h = mod-lt (eval ρ a / 2 ^ k) (pow_pos w)
  eval_fits (above w a b) h = mod-lt (eval ρ a * 2 ^ width b + eval ρ b) (pow_pos w)
  eval_fits (choose w c a b) h =
      cond_both (eqb (eval ρ c) 1) (eval ρ a) (eval ρ b) (λ x. x < 2 ^ w) (λ p. subst (λ k. eval ρ a < 2 ^ k) h.3 (eval_fits a h.2))
      (λ p. subst (λ k. eval ρ b < 2 ^ k) h.5 (eval_fits b h.4))

  at_width : (e : Expr) (w : ℕ) → Sized d e → width e ≡ w → eval ρ e < 2 ^ w
  at_width e w h k = subst (λ n. eval ρ e < 2 ^ n) k (eval_fits e h)

  -- the value that an assignment gives is one that may be coming
  pub coming : (e : Expr) (w : ℕ) → Sized d e → width e ≡ w → Coming ρ w (shape e) (eval ρ e)
  coming (constant w' n) w h k = refl
  coming (variable w' v place) w h k = refl
  coming (complement w' a) w h k = at_width (complement w' a) w h k
  coming (binary w' o a b) w h k = at_width (binary w' o a b) w h k
  coming (shift_left w' a n) w h k = at_width (shift_left w' a n) w h k
  coming (shift_right w' a n) w h k = at_width (shift_right w' a n) w h k
  coming (part w' n a) w h k = at_width (part w' n a) w h k
  coming (above w' a b) w h k = at_width (above w' a b) w h k
  coming (choose w' c a b) w h k = at_width (choose w' c a b) w h k

  pins_holds : (way : Bool) (u n v : ℕ) → eqb (ρ u) n ≡ way → pins way u n v (ρ v) ≡ true
  pins_holds true u n v p = cond_both (eqb u v) (eqb (ρ v) n) true (λ z. z ≡ true) (λ q. subst (λ s. eqb (ρ s) n ≡ true) (eqb-true u v q) p) (λ q. refl)
  pins_holds false u n v p =
      cond_both (eqb u v) (not (eqb (ρ v) n)) true (λ z. z ≡ true) (λ q. subst (λ s. not (eqb (ρ s) n) ≡ true) (eqb-true u v q) (ap not p)) (λ q. refl)

  equates_holds : (way : Bool) (s t : Shape) (w x y v : ℕ) → Coming ρ w s x → Coming ρ w t y → eqb x y ≡ way → equates way s t v (ρ v) ≡ true
  equates_holds way (single u) (number n) w x y v h k p = pins_holds way u n v (ap₂ eqb (sym h) (sym k) ∙ p)
  equates_holds way (number n) (single u) w x y v h k p = pins_holds way u n v (ap₂ eqb (sym k) (sym h) ∙ eqb_swap y x ∙ p)
  equates_holds way (single u) (single n) w x y v h k p = refl
  equates_holds way (number u) (number n) w x y v h k p = refl
  equates_holds way (single u) other w x y v h k p = refl
  equates_holds way (number u) other w x y v h k p = refl
  equates_holds way other t w x y v h k p = refl

  -- a condition leaves its variables the values that they have
  pub leaves_holds : (e : Expr) → Sized d e → width e ≡ 1 → (way : Bool) → eqb (eval ρ e) 1 ≡ way → (v : ℕ) → leaves e way v (ρ v) ≡ true
  leaves_holds (constant w n) h k way p v = refl
  leaves_holds (variable w u place) h k way p v = pins_holds way u 1 v p
  leaves_holds (complement w a) h k way p v =
      leaves_holds a h.0 (h.1 ∙ k) (not way) (sym (not-not (eqb (eval ρ a) 1)) ∙ ap not (sym (complement_bit w (eval ρ a) k (at_width a 1 h.0 (h.1 ∙ k))) ∙ p)) v
  leaves_holds (binary w and a b) h k true p v =
      let q = and_parts (eqb (eval ρ a) 1) (eqb (eval ρ b) 1) (sym (and_bit (eval ρ a) (eval ρ b) (at_width a 1 h.0 (sym h.3 ∙ k)) (at_width b 1 h.1 (sym h.2 ∙ sym h.3 ∙ k))) ∙ p) in
      and_from (leaves a true v (ρ v)) (leaves b true v (ρ v)) (leaves_holds a h.0 (sym h.3 ∙ k) true q.0 v) (leaves_holds b h.1 (sym h.2 ∙ sym h.3 ∙ k) true q.1 v)
  leaves_holds (binary w and a b) h k false p v =
      ⊎_elim (λ q. or_left (leaves a false v (ρ v)) (leaves b false v (ρ v)) (leaves_holds a h.0 (sym h.3 ∙ k) false q v))
      (λ q. or_right (leaves a false v (ρ v)) (leaves b false v (ρ v)) (leaves_holds b h.1 (sym h.2 ∙ sym h.3 ∙ k) false q v))
      (and_cases (eqb (eval ρ a) 1) (eqb (eval ρ b) 1) (sym (and_bit (eval ρ a) (eval ρ b) (at_width a 1 h.0 (sym h.3 ∙ k)) (at_width b 1 h.1 (sym h.2 ∙ sym h.3 ∙ k))) ∙ p))
  leaves_holds (binary w or a b) h k true p v =
      ⊎_elim (λ q. or_left (leaves a true v (ρ v)) (leaves b true v (ρ v)) (leaves_holds a h.0 (sym h.3 ∙ k) true q v))
      (λ q. or_right (leaves a true v (ρ v)) (leaves b true v (ρ v)) (leaves_holds b h.1 (sym h.2 ∙ sym h.3 ∙ k) true q v))
      (or_cases (eqb (eval ρ a) 1) (eqb (eval ρ b) 1) (sym (or_bit (eval ρ a) (eval ρ b) (at_width a 1 h.0 (sym h.3 ∙ k)) (at_width b 1 h.1 (sym h.2 ∙ sym h.3 ∙ k))) ∙ p))
  leaves_holds (binary w or a b) h k false p v =
      let q = or_parts (eqb (eval ρ a) 1) (eqb (eval ρ b) 1) (sym (or_bit (eval ρ a) (eval ρ b) (at_width a 1 h.0 (sym h.3 ∙ k)) (at_width b 1 h.1 (sym h.2 ∙ sym h.3 ∙ k))) ∙ p) in
      and_from (leaves a false v (ρ v)) (leaves b false v (ρ v)) (leaves_holds a h.0 (sym h.3 ∙ k) false q.0 v) (leaves_holds b h.1 (sym h.2 ∙ sym h.3 ∙ k) false q.1 v)
  leaves_holds (binary w equals a b) h k way p v =
      equates_holds way (shape a) (shape b) (width a) (eval ρ a) (eval ρ b) v (coming a (width a) h.0 refl) (coming b (width a) h.1 (sym h.2))
      (sym (bit_one (eqb (eval ρ a) (eval ρ b))) ∙ p)
  leaves_holds (binary w xor a b) h k way p v = refl
  leaves_holds (binary w sum a b) h k way p v = refl
  leaves_holds (binary w difference a b) h k way p v = refl
  leaves_holds (binary w less a b) h k way p v = refl
  leaves_holds (shift_left w a n) h k way p v = refl
  leaves_holds (shift_right w a n) h k way p v = refl
  leaves_holds (part w n a) h k way p v = refl
  leaves_holds (above w a b) h k way p v = refl
  leaves_holds (choose w c a b) h k way p v = refl
