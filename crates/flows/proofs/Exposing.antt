-- The values and levels that are shown.
use Rattle.std.proofs.Common.{◌≡◌, ℕ, ◌+◌, ◌^◌, ◌<◌, ◌≤◌, Bool, true, false, sym, refl, ap, ◌∙◌, subst, ⊎_elim, arith, below_more}
use Rattle.std.proofs.lemmas.Bool.{ltb-true, both_ways, cases_Bool}
use Rattle.lattice.specs.Meaning.{Meaning, Below, Laws, Lowest, Joins}
use Rattle.language.specs.Syntax.{Design, count, var}
use Rattle.language.specs.Machine.{Valuation, level}
use Rattle.language.specs.Typing.{Levelled, Shape}
use Rattle.language.specs.Finite.{Sets, Possible, Place, always_at, value_of, any_of, label_place, target_place, Tries, One, level_at}
use Rattle.language.proofs.Levels.{level_is_level}
use Rattle.language.proofs.Places.{Stands, fill, fill_fits, fill_kept, fill_stands, still_stands, stands_level, some_coming}
use Rattle.flows.specs.declared.offences.Offence.{Offence}
use Rattle.flows.specs.Findings.{Suited, JoinBelow, Looks, filled, Offends, Exposes}

module _ (m : Meaning) (laws : Laws m) (d : Design) (levelled : Levelled m d) (ρ : Valuation) (flow : ℕ → Bool) where
  pub join_none : (r : ℕ) → Lowest m r → JoinBelow m d ρ flow 0 r
  join_none r low = record {
    is_level = low.level;
    above = λ v h. absurd (omega arith);
    least = λ t h all. low.under t h;
  }

  pub join_more : (n s r : ℕ) → JoinBelow m d ρ flow n s → Joins m s (level d ρ n) r → flow n ≡ true → JoinBelow m d ρ flow (n + 1) r
  join_more n s r j is on =
      let both = is.between j.is_level (level_is_level m d levelled ρ n) in
      record {
        is_level = (laws.order.levels s r both.left).1;
        above = below_more (λ v. flow v ≡ true → Below m (level d ρ v) r) n (λ v h f. laws.order.transitive (level d ρ v) s r (j.above v h f) both.left) (λ f. both.right);
        least = λ t h all. both.least t (j.least t h (λ v k f. all v (omega arith) f)) (all n (omega arith) on);
      }

  pub join_skip : (n s : ℕ) → JoinBelow m d ρ flow n s → flow n ≡ false → JoinBelow m d ρ flow (n + 1) s
  join_skip n s j off = record {
    is_level = j.is_level;
    above = below_more (λ v. flow v ≡ true → Below m (level d ρ v) s) n j.above (λ f. absurd (both_ways (flow n) off f));
    least = λ t h all. j.least t h (λ v k f. all v (omega arith) f);
  }

-- ---- a valuation with given values at a place

looks : (d : Design) (sets : Sets) → count d ≤ 128 → (p : Place) (x : ℕ) → Tries d sets p x → Looks p
looks d sets most (always_at l) x h = tt
looks d sets most (value_of t s) x h = let i = h.variable in omega (arith, ltb-true s (count d) i, most)
looks d sets most (any_of t w) x h = tt

-- the same valuation, pointwise
module _ (d : Design) (sets : Sets) (ρ σ : Valuation) (same : (v : ℕ) → σ v ≡ ρ v) where
  same_suited : Suited d sets ρ → Suited d sets σ
  same_suited s = record {
    fits = λ v. subst (λ z. z < 2 ^ (var d v).width) (sym (same v)) (s.fits v);
    kept = λ v i n. ap (sets v) (same v) ∙ s.kept v i n;
  }

  same_stands : (p : Place) (x : ℕ) → Stands ρ p x → Stands σ p x
  same_stands (always_at l) x h = tt
  same_stands (value_of t s) x h = h ∙ sym (same s)
  same_stands (any_of t w) x h = tt

-- what is put where a place looks is filled in there
filled_is : (p : Place) (ρ : Valuation) (x v : ℕ) → filled p ρ x v ≡ fill p ρ x v
filled_is (always_at l) ρ x v = refl
filled_is (value_of t s) ρ x v = refl
filled_is (any_of t w) ρ x v = refl

-- base is filled in at p, and then at q
module _ (m : Meaning) (laws : Laws m) (d : Design) (most : count d ≤ 128) (sets : Sets) (flow : ℕ → Bool) (u : ℕ) (e : Shape)
    (f : Offence) (o : Offends m d sets flow (target_place d u e) f) (p q : Place) (is_p : p ≡ label_place (var d f.variable).label) (is_q : q ≡ target_place d u e)
    (base one two : Valuation) (suited : Possible d sets → Suited d sets base)
    (first : Looks p → (k : ℕ) → one k ≡ filled p base f.x k) (second : Looks q → (k : ℕ) → two k ≡ filled q one f.y k) where
  pub exposed : (a b : ℕ) → JoinBelow m d two flow (count d) a → b ≡ level_at d q f.y → Exposes m d sets flow u e a b
  exposed a b j is_b =
      let v = f.variable in
      let x = f.x in
      let y = f.y in
      let tries_p : Tries d sets p x = subst (λ z. Tries d sets z x) (sym is_p) o.clash.first in
      let tries_q : Tries d sets q y = subst (λ z. Tries d sets z y) (sym is_q) o.clash.second in
      let together : One p q x y = subst (λ z. One z q x y) (sym is_p) (subst (λ z. One (label_place (var d v).label) z x y) (sym is_q) o.clash.one) in
      let same_one : (k : ℕ) → one k ≡ fill p base x k = λ k. first (looks d sets most p x tries_p) k ∙ filled_is p base x k in
      let same_two : (k : ℕ) → two k ≡ fill q one y k = λ k. second (looks d sets most q y tries_q) k ∙ filled_is q one y k in
      let at_first = suited o.possible in
      let suited_one : Suited d sets one = same_suited d sets (fill p base x) one same_one
      (record { fits = fill_fits d sets p base x tries_p at_first.fits; kept = fill_kept d sets p base x tries_p at_first.kept }) in
      let suited_two : Suited d sets two = same_suited d sets (fill q one y) two same_two
      (record { fits = fill_fits d sets q one y tries_q suited_one.fits; kept = fill_kept d sets q one y tries_q suited_one.kept }) in
      let stands_one : Stands one p x = same_stands d sets (fill p base x) one same_one p x (fill_stands p base x) in
      let stands_p : Stands two p x = same_stands d sets (fill q one y) two same_two p x (still_stands p q one x y together stands_one) in
      let stands_q : Stands two q y = same_stands d sets (fill q one y) two same_two q y (fill_stands q one y) in
      let c = some_coming d sets two u y e o.clash.second (subst (λ z. Stands two z y) is_q stands_q) in
      let here : level d two v ≡ level_at d (label_place (var d v).label) x = stands_level d two (var d v).label x (subst (λ z. Stands two z x) is_p stands_p) in
      let goal : b ≡ level_at d (target_place d u e) y = is_b ∙ ap (λ z. level_at d z y) is_q in
      record {
        values = two;
        suited = suited_two;
        coming = c.0;
        comes = c.1;
        join = j;
        goal_is = goal ∙ sym c.2;
        not_below = ⊎_elim
            (λ (yes : m.below a b ≡ true). absurd (both_ways _ o.clash.apart
            (subst (Below m (level_at d (label_place (var d v).label) x)) goal
            (subst (λ z. Below m z b) here (laws.order.transitive (level d two v) a b (j.above v (ltb-true v (count d) o.variable) o.flows) yes)))))
            (λ h. h) (cases_Bool (m.below a b));
      }
