-- A register that takes a port whose level another port chooses.
use Rattle.std.proofs.Common.{◌≡◌, ℕ, zero, suc, ◌^◌, ◌<◌, true, eqb, [], ◌∷◌, sym, refl, ap, ◌∙◌, subst, inl, inr, arith, lit<, lit≤}
use Rattle.std.proofs.lemmas.Bool.{eqb-true, and_parts}
use Rattle.lattice.specs.Meaning.{Below}
use Rattle.language.specs.Syntax.{constant, variable, binary, equals, fixed, looked_up, var, entry}
use Rattle.language.specs.Machine.{Valuation, inside, held}
use Rattle.language.specs.Form.{Selects, Formed}
use Rattle.language.specs.Typing.{Fits, Allowed, Reaches, TableLevels, LabelLevel, Typed}
use Rattle.language.specs.Offences.{Shown, Breaks13}
use Rattle.language.specs.Leaks.{two}
use Rattle.language.proofs.Leaks.{fixed≢looked_up, ordered, three_inside}
use Rattle.worked.specs.Designs.{table_A, taking}
use Rattle.worked.proofs.Values.{small_entry, first_is}

-- ---- form

module _ (n : ℕ) where
  resets : (v : ℕ) → (var (taking n) v).reset < 2 ^ (var (taking n) v).width
  resets zero = lit< tt
  resets (suc zero) = lit< tt
  resets (suc (suc zero)) = lit< tt
  resets (suc (suc (suc k))) = lit< tt

  settling : (v : ℕ) → inside (taking n) v ≡ true → held (taking n) v ≡ true
  settling zero h = refl
  settling (suc zero) h = refl
  settling (suc (suc zero)) h = refl
  settling (suc (suc (suc k))) h = absurd (three_inside k h)

  selectors : (v t s : ℕ) → (var (taking n) v).label ≡ looked_up t s → Selects (taking n) v s
  selectors zero t s e = absurd (fixed≢looked_up 0 t s e)
  selectors (suc zero) t s e =
      let p : 0 ≡ s = cc in
      subst (Selects (taking n) 1) p
      (record { names = refl; narrow = lit≤ tt; own = inr (0, refl); of_port = λ h. (λ z. omega arith, refl); of_register = λ h. refl })
  selectors (suc (suc zero)) t s e = absurd (fixed≢looked_up 0 t s e)
  selectors (suc (suc (suc k))) t s e = absurd (fixed≢looked_up 0 t s e)

pub taking_formed : (n : ℕ) → n < 4 → Formed (taking n)
taking_formed n small = record {
  resets = resets n;
  settling = settling n;
  clocking = (
    (
      record { sized = (refl, small, refl, refl); wide = refl; reads = (refl, tt) },
      record { source = record { sized = refl; wide = refl; reads = (refl, tt) }; target = refl },
      tt,
    ),
    tt,
  );
  apart = ((tt, tt), tt, λ v h. refl);
  selectors = selectors n;
}

-- ---- where it takes the port while its level is 0

entries : (t : ℕ) → TableLevels two (taking 1) t
entries zero i = small_entry table_A refl i
entries (suc t) i = lit< tt

labels : (v : ℕ) → LabelLevel two (taking 1) v
labels zero l e = let p : 0 ≡ l = cc in omega arith
labels (suc zero) l e = absurd (fixed≢looked_up l 0 0 (sym e))
labels (suc (suc zero)) l e = let p : 0 ≡ l = cc in omega arith
labels (suc (suc (suc k))) l e = let p : 0 ≡ l = cc in omega arith

reaches : (v : ℕ) → Reaches two (taking 1) v
reaches zero t s l e f = absurd (fixed≢looked_up 0 t s e)
reaches (suc zero) t s l e f =
    let p : 0 ≡ s = cc in
    let q : fixed 0 ≡ fixed l = ap (λ k. (var (taking 1) k).label) p ∙ f in
    let z : 0 ≡ l = cc in
    λ x h. subst (λ k. Below two k (entry (taking 1) t x)) z (ordered 0 (entry (taking 1) t x) (omega arith) (entries t x))
reaches (suc (suc zero)) t s l e f = absurd (fixed≢looked_up 0 t s e)
reaches (suc (suc (suc k))) t s l e f = absurd (fixed≢looked_up 0 t s e)

pub taking_1_typed : Typed two (taking 1)
taking_1_typed = record {
  levelled = record { entries = entries; labels = labels };
  reaches = reaches;
  settled_flows = tt;
  clocked_flows = ((tt, λ ρ fits allowed x p j is. is.least 0 (lit< tt) (port_public ρ (one_there ρ allowed), (refl, tt)), tt), tt);
  stays = ((tt, λ t own. absurd (fixed≢looked_up 0 t 2 own), tt), tt);
}
  where
    one_there : (ρ : Valuation) → Allowed (taking 1) ((binary 1 equals (variable 2 0 0) (constant 2 1), true) ∷ []) ρ → ρ 0 ≡ 1
    one_there ρ allowed = eqb-true (ρ 0) 1 (and_parts (eqb (ρ 0) 1) true (allowed 0 refl (lit≤ tt))).0

    port_public : (ρ : Valuation) → ρ 0 ≡ 1 → Below two (entry (taking 1) 0 (ρ 0)) 0
    port_public ρ e = subst (λ z. Below two (entry (taking 1) 0 z) 0) (sym e) refl

-- ---- where it takes the port while its level is 1

fits_2 : Fits (taking 2) (first_is 2)
fits_2 zero = lit< tt
fits_2 (suc zero) = lit< tt
fits_2 (suc (suc zero)) = lit< tt
fits_2 (suc (suc (suc k))) = lit< tt

allowed_2 : Allowed (taking 2) ((binary 1 equals (variable 2 0 0) (constant 2 2), true) ∷ []) (first_is 2)
allowed_2 zero h k = refl
allowed_2 (suc zero) h k = refl
allowed_2 (suc (suc zero)) h k = refl
allowed_2 (suc (suc (suc v))) h k = absurd (three_inside v h)

shown_2 : Shown two (taking 2) 1 0 ((binary 1 equals (variable 2 0 0) (constant 2 2), true) ∷ []) 2 (variable 8 1 3)
shown_2 = record {
  values = first_is 2;
  fits = fits_2;
  allowed = allowed_2;
  coming = 0;
  comes = refl;
  flow_is = record { level = lit< tt; above = (refl, (refl, tt)); least = λ t h each. each.0 };
  goal_is = refl;
  not_below = refl;
}

pub taking_2_breaks : Breaks13 two (taking 2) 0 1 0
taking_2_breaks = inr (inl (inl (refl, shown_2)))
