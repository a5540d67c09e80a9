-- Places: what is read there, and valuations with given values there.
use Rattle.std.proofs.Common.{◌≡◌, ℕ, ◌^◌, ◌<◌, ◌≤◌, Bool, true, false, cond, eqb, sym, refl, ap, ◌∙◌, subst, ⊎_elim, arith, pow_pos, pow_mono}
use Rattle.std.proofs.lemmas.Bool.{eqb-true, cases_eq, cond_both, eqb-false}
use Rattle.language.specs.Syntax.{Label, Design, fixed, looked_up, var, entry}
use Rattle.language.specs.Machine.{Valuation, put, level, level_by, inside}
use Rattle.language.specs.Typing.{Shape, number, single, other, Fits, Coming}
use Rattle.language.specs.Finite.{Sets, Place, always_at, value_of, any_of, label_place, coming_place, target_by, target_place, Tries, level_at, One}
use Rattle.language.proofs.Lists.{put_same, put_other}
use Rattle.language.proofs.Steps.{put_fits}

pub small_value : (x w : ℕ) → w ≤ 4 → x < 2 ^ w → x < 16
small_value x w h k = let p : 2 ^ w ≤ 2 ^ 4 = pow_mono h in omega (arith, p, k)

-- the sets leave the values of all variables up to 4 wide
abbrev pub Kept : Design → Sets → Valuation → Type 0
Kept d sets ρ = (v : ℕ) → inside d v ≡ true → (var d v).width ≤ 4 → sets v (ρ v) ≡ true

-- x is what a place reads under ρ
abbrev pub Stands : Valuation → Place → ℕ → Type 0
Stands ρ (always_at l) x = Unit
Stands ρ (value_of t s) x = x ≡ ρ s
Stands ρ (any_of t n) x = Unit

pub one : (ρ : Valuation) (p q : Place) (x y : ℕ) → Stands ρ p x → Stands ρ q y → One p q x y
one ρ (always_at l) q x y h k = tt
one ρ (any_of t n) q x y h k = tt
one ρ (value_of t s) (always_at l) x y h k = tt
one ρ (value_of t s) (any_of t' n) x y h k = tt
one ρ (value_of t s) (value_of t' r) x y h k = λ e. h ∙ ap ρ e ∙ sym k

-- the valuation in which a place reads x
abbrev pub fill : Place → Valuation → ℕ → Valuation
fill (always_at l) ρ x = ρ
fill (value_of t s) ρ x = put ρ s x
fill (any_of t n) ρ x = ρ

pub fill_fits : (d : Design) (sets : Sets) (p : Place) (ρ : Valuation) (x : ℕ) → Tries d sets p x → Fits d ρ → Fits d (fill p ρ x)
fill_fits d sets (always_at l) ρ x h fits = fits
fill_fits d sets (value_of t s) ρ x h fits = put_fits d ρ s x fits h.fits
fill_fits d sets (any_of t n) ρ x h fits = fits

pub fill_kept : (d : Design) (sets : Sets) (p : Place) (ρ : Valuation) (x : ℕ) → Tries d sets p x → Kept d sets ρ → Kept d sets (fill p ρ x)
fill_kept d sets (always_at l) ρ x h kept = kept
fill_kept d sets (value_of t s) ρ x h kept = λ v i n.
    cond_both (eqb s v) x (ρ v) (λ z. sets v z ≡ true) (λ e. subst (λ u. sets u x ≡ true) (eqb-true s v e) h.left) (λ e. kept v i n)
fill_kept d sets (any_of t n) ρ x h kept = kept

pub fill_stands : (p : Place) (ρ : Valuation) (x : ℕ) → Stands (fill p ρ x) p x
fill_stands (always_at l) ρ x = tt
fill_stands (value_of t s) ρ x = sym (put_same ρ s x)
fill_stands (any_of t n) ρ x = tt

pub still_stands : (p q : Place) (ρ : Valuation) (x y : ℕ) → One p q x y → Stands ρ p x → Stands (fill q ρ y) p x
still_stands (always_at l) q ρ x y o h = tt
still_stands (any_of t n) q ρ x y o h = tt
still_stands (value_of t s) (always_at l) ρ x y o h = h
still_stands (value_of t s) (any_of t' n) ρ x y o h = h
still_stands (value_of t s) (value_of t' r) ρ x y o h =
    ⊎_elim (λ (e : s ≡ r). o e ∙ sym (ap (put ρ r y) e ∙ put_same ρ r y)) (λ (f : s ≡ r → ⊥). h ∙ sym (put_other ρ r y s (λ e. f (sym e)))) (cases_eq s r)

pub stands_level : (d : Design) (ρ : Valuation) (l : Label) (x : ℕ) → Stands ρ (label_place l) x → level_by d ρ l ≡ level_at d (label_place l) x
stands_level d ρ (fixed l) x h = refl
stands_level d ρ (looked_up t s) x h = ap (entry d t) (sym h)

any_coming : (ρ : Valuation) (w : ℕ) (e : Shape) → (c : ℕ) × Coming ρ w e c
any_coming ρ w (number n) = (n, refl)
any_coming ρ w (single v) = (ρ v, refl)
any_coming ρ w other = (0, pow_pos w)

-- a coming value that gives the target the level read
module _ (d : Design) (sets : Sets) (ρ : Valuation) (u y : ℕ) where
  by_coming : (t : ℕ) (e : Shape) → Tries d sets (coming_place d t (var d u).width e) y → Stands ρ (coming_place d t (var d u).width e) y
      → (c : ℕ) × Coming ρ (var d u).width e c × (entry d t c ≡ level_at d (coming_place d t (var d u).width e) y)
  by_coming t (number n) h k = (n, refl, refl)
  by_coming t (single v) h k = (ρ v, refl, ap (entry d t) (sym k))
  by_coming t other h k = (y, h.1, refl)

  pub some_coming : (e : Shape) → Tries d sets (target_place d u e) y → Stands ρ (target_place d u e) y
      → (c : ℕ) × Coming ρ (var d u).width e c × (level d (put ρ u c) u ≡ level_at d (target_place d u e) y)
  some_coming e = go (var d u).label
    where
      by : (t s : ℕ) (b : Bool) → eqb s u ≡ b
          → Tries d sets (cond b (coming_place d t (var d u).width e) (value_of t s)) y → Stands ρ (cond b (coming_place d t (var d u).width e) (value_of t s)) y
          → (c : ℕ) × Coming ρ (var d u).width e c × (entry d t (put ρ u c s) ≡ level_at d (cond b (coming_place d t (var d u).width e) (value_of t s)) y)
      by t s true f h k =
          let r = by_coming t e h k in
          (r.0, r.1, ap (λ n. entry d t (put ρ u r.0 n)) (eqb-true s u f) ∙ ap (entry d t) (put_same ρ u r.0) ∙ r.2)
      by t s false f h k =
          let r = any_coming ρ (var d u).width e in
          (r.0, r.1, ap (entry d t) (put_other ρ u r.0 s (λ p. eqb-false s u f (sym p)) ∙ sym k))

      go : (l : Label) → Tries d sets (target_by d u e l) y → Stands ρ (target_by d u e l) y
          → (c : ℕ) × Coming ρ (var d u).width e c × (level_by d (put ρ u c) l ≡ level_at d (target_by d u e l) y)
      go (fixed l) h k = let r = any_coming ρ (var d u).width e in (r.0, r.1, refl)
      go (looked_up t s) h k = by t s (eqb s u) refl h k
