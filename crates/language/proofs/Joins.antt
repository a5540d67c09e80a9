-- Levels of variables: what flows is at or below a level exactly when each variable's level is.
use Rattle.std.proofs.Common.{ℕ, ◌<◌, List, [], ◌∷◌, map}
use Rattle.lattice.specs.Meaning.{Meaning, Below, Laws, All, Joined}
use Rattle.lattice.proofs.Lists.{to_images, of_images}
use Rattle.lattice.proofs.Joining.{has_join, join_below}

module _ (m : Meaning) (laws : Laws m) (level : ℕ → ℕ) (levels : (v : ℕ) → level v < m.count) where
  are_levels : (vs : List ℕ) → All (λ v. level v < m.count) vs
  are_levels [] = tt
  are_levels (v ∷ vs) = (levels v, are_levels vs)

  pub flow_each : (vs : List ℕ) (t : ℕ) → ((j : ℕ) → Joined m (map level vs) j → Below m j t) → All (λ v. Below m (level v) t) vs
  flow_each vs t f =
      let j = has_join laws (map level vs) (to_images (λ a. a < m.count) level vs (are_levels vs)) in
      let below = f j.0 j.1 in
      of_images (λ a. Below m a t) level vs ((join_below laws (map level vs) j.0 t j.1 (laws.order.levels j.0 t below).1).0 below)

  pub each_flow : (vs : List ℕ) (t : ℕ) → t < m.count → All (λ v. Below m (level v) t) vs → (j : ℕ) → Joined m (map level vs) j → Below m j t
  each_flow vs t small h j is = (join_below laws (map level vs) j t is small).1 (to_images (λ a. Below m a t) level vs h)
