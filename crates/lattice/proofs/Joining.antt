-- The join of several levels: there is one, and it is at or below a level exactly when each of them is.
use Rattle.std.proofs.Common.{◌≡◌, ℕ, ◌<◌, Bool, true, false, ◌↔◌, List, [], ◌∷◌, ◌++◌, Decides, refl, ⊎_elim}
use Rattle.std.proofs.lemmas.Bool.{cases_Bool, false≢true}
use Rattle.lattice.specs.Meaning.{Meaning, Below, Laws, Joins, All, EachBelow, Joined}
use Rattle.lattice.proofs.Lists.{all_left, all_right, all_append, all_weaker}

module _ {m : Meaning} (laws : Laws m) where
  pub has_join : (levels : List ℕ) → All (λ a. a < m.count) levels → (j : ℕ) × Joined m levels j
  has_join [] h =
      let low = laws.lowest in
      (low.0, record { level = low.1.level; above = tt; least = λ t k all. low.1.under t k })
  has_join (a ∷ levels) h =
      let rest = has_join levels h.1 in
      let both = laws.joins a rest.0 h.0 rest.1.level in (
        both.0,
        record {
          level = (laws.order.levels a both.0 both.1.left).1;
          above = (
            both.1.left,
            all_weaker (λ b. Below m b rest.0) (λ b. Below m b both.0) (λ b k. laws.order.transitive b rest.0 both.0 k both.1.right) levels rest.1.above,
          );
          least = λ t k all. both.1.least t all.0 (rest.1.least t k all.1);
        },
      )

  pub join_below : (levels : List ℕ) (j t : ℕ) → Joined m levels j → t < m.count → Below m j t ↔ EachBelow m levels t
  join_below levels j t is small = (
    (λ h. all_weaker (λ a. Below m a j) (λ a. Below m a t) (λ a k. laws.order.transitive a j t k h) levels is.above),
    is.least t small,
  )

  -- the same, for an answer that says whether each is
  pub join_decides : (levels : List ℕ) (t : ℕ) (b : Bool) → Decides b (EachBelow m levels t) → t < m.count → (j : ℕ) → Joined m levels j → m.below j t ≡ b
  join_decides levels t true d small j is = is.least t small (d.0 refl)
  join_decides levels t false d small j is =
      ⊎_elim (λ (e : m.below j t ≡ true). absurd (false≢true (d.1 ((join_below levels j t is small).0 e)))) (λ e. e)
      (cases_Bool (m.below j t))

  -- one level more
  pub join_more : (levels : List ℕ) (a j r : ℕ) → a < m.count → Joined m levels j → Joins m j a r → Joined m (levels ++ (a ∷ [])) r
  join_more levels a j r h is joins =
      let l = joins.between is.level h in
      record {
        level = (laws.order.levels _ _ l.left).1;
        above =
            all_append _ levels (a ∷ [])
            (all_weaker (λ b. Below m b j) (λ b. Below m b r) (λ b k. laws.order.transitive b j r k l.left) levels is.above)
            (l.right, tt);
        least = λ t k each. l.least t (is.least t k (all_left _ levels (a ∷ []) each)) (all_right _ levels (a ∷ []) each).0;
      }
