-- The pair of two lattices keeps the laws, and its answers go by halves.
use Rattle.std.proofs.Common.{◌≡◌, ℕ, ◌+◌, ◌*◌, ◌/◌, ◌%◌, ◌<◌, ◌≤◌, Bool, true, false, cond, ltb, sym, refl, ap, ◌∙◌, subst, mul_comm, arith}
use Rattle.std.proofs.lemmas.Nat.{div-add-mod', mul-add-lt, div-mul-add, mod-mul-add, div_below, mod_below, mul-le}
use Rattle.std.proofs.lemmas.Bool.{and_parts, and_from, ltb-false, le-ltb, cond-false}
use Rattle.std.proofs.lemmas.Bool.Decides.{nat_tests}
use Rattle.lattice.specs.Meaning.{Meaning, Below, Ordered, Laws, Lowest, Highest, LeastAbove, GreatestBelow, Joins, Meets}
use Rattle.lattice.specs.Kinds.{chain, product, pair, TwoLevels}
use Rattle.lattice.specs.Chains.{chain_laws}
use Rattle.lattice.specs.Reversals.{reversed_laws, turned_meet, turned_join, turned_highest, turned_lowest}

module _ {m n : Meaning} (first : Laws m) (second : Laws n) where
  both : (a b : ℕ) → Below m (a / n.count) (b / n.count) → Below n (a % n.count) (b % n.count) → Below (product m n) a b
  both a b h k = and_from _ _ h k

  high : (a b : ℕ) → Below (product m n) a b → Below m (a / n.count) (b / n.count)
  high a b h = (and_parts _ _ h).0

  low : (a b : ℕ) → Below (product m n) a b → Below n (a % n.count) (b % n.count)
  low a b h = (and_parts _ _ h).1

  -- a number whose high half is a level is a level, and the other way round
  within : (a : ℕ) → a / n.count < m.count → a < m.count * n.count
  within a h =
      let r : a % n.count < n.count = mod_below a n.count second.order.some in
      omega (arith, mul-add-lt (a / n.count) n.count (a % n.count) m.count h r, div-add-mod' a n.count, mul_comm m.count n.count)

  high_level : (a : ℕ) → a < m.count * n.count → a / n.count < m.count
  high_level a h = div_below a n.count m.count second.order.some h

  low_level : (a : ℕ) → a % n.count < n.count
  low_level a = mod_below a n.count second.order.some

  product_order : m.count * n.count ≤ 65536 → Ordered (product m n)
  product_order most = record {
    some = mul-le 1 1 m.count n.count first.order.some second.order.some;
    most = most;
    levels = λ a b h. let l = first.order.levels _ _ (high a b h) in (within a l.0, within b l.1);
    reflexive = λ a h. both a a (first.order.reflexive _ (high_level a h)) (second.order.reflexive _ (low_level a));
    antisymmetric =
        λ a b h k.
        let e : a / n.count ≡ b / n.count = first.order.antisymmetric _ _ (high a b h) (high b a k) in
        let f : a % n.count ≡ b % n.count = second.order.antisymmetric _ _ (low a b h) (low b a k) in
        sym (div-add-mod' a n.count) ∙ ap (λ (x : ℕ). x * n.count + a % n.count) e ∙ ap (λ (x : ℕ). b / n.count * n.count + x) f ∙ div-add-mod' b n.count;
    transitive = λ a b c h k. both a c (first.order.transitive _ _ _ (high a b h) (high b c k)) (second.order.transitive _ _ _ (low a b h) (low b c k));
  }

  -- what stands at or below, or at or above, the level of two halves
  beneath : (a x y : ℕ) → y < n.count → Below m (a / n.count) x → Below n (a % n.count) y → Below (product m n) a (x * n.count + y)
  beneath a x y l h k =
      both a (x * n.count + y)
      (subst (λ (v : ℕ). Below m (a / n.count) v) (sym (div-mul-add x n.count y l)) h)
      (subst (λ (v : ℕ). Below n (a % n.count) v) (sym (mod-mul-add x n.count y l)) k)

  above : (a x y : ℕ) → y < n.count → Below m x (a / n.count) → Below n y (a % n.count) → Below (product m n) (x * n.count + y) a
  above a x y l h k =
      both (x * n.count + y) a
      (subst (λ (v : ℕ). Below m v (a / n.count)) (sym (div-mul-add x n.count y l)) h)
      (subst (λ (v : ℕ). Below n v (a % n.count)) (sym (mod-mul-add x n.count y l)) k)

  -- the level of two halves is a level
  placed : (x y : ℕ) → x < m.count → y < n.count → x * n.count + y < m.count * n.count
  placed x y h k = omega (arith, mul-add-lt x n.count y m.count h k, mul_comm m.count n.count)

  product_join : (a b x y : ℕ) → LeastAbove m (a / n.count) (b / n.count) x → LeastAbove n (a % n.count) (b % n.count) y → LeastAbove (product m n) a b (x * n.count + y)
  product_join a b x y p q =
      let l = (second.order.levels _ _ q.left).1 in
      record {
        left = beneath a x y l p.left q.left;
        right = beneath b x y l p.right q.right;
        least = λ t h k. above t x y l (p.least _ (high a t h) (high b t k)) (q.least _ (low a t h) (low b t k));
      }

  product_lowest : (x y : ℕ) → Lowest m x → Lowest n y → Lowest (product m n) (x * n.count + y)
  product_lowest x y p q = record {
    level = placed x y p.level q.level;
    under = λ t h. above t x y q.level (p.under _ (high_level t h)) (q.under _ (low_level t));
  }

-- A meet is a join, and the highest level the lowest, of the lattices turned round.
module _ {m n : Meaning} (first : Laws m) (second : Laws n) where
  product_meet : (a b x y : ℕ) → GreatestBelow m (a / n.count) (b / n.count) x → GreatestBelow n (a % n.count) (b % n.count) y → GreatestBelow (product m n) a b (x * n.count + y)
  product_meet a b x y p q =
      turned_join a b (x * n.count + y) (product_join (reversed_laws first) (reversed_laws second) a b x y (turned_meet _ _ x p) (turned_meet _ _ y q))

  product_highest : (x y : ℕ) → Highest m x → Highest n y → Highest (product m n) (x * n.count + y)
  product_highest x y p q = turned_lowest (x * n.count + y) (product_lowest (reversed_laws first) (reversed_laws second) x y (turned_highest x p) (turned_highest y q))

  product_laws : m.count * n.count ≤ 65536 → Laws (product m n)
  product_laws most =
      let x = first.lowest in
      let y = second.lowest in
      let v = first.highest in
      let w = second.highest in
      record {
        order = product_order first second most;
        joins =
            λ a b h k.
            let p = first.joins _ _ (high_level first second a h) (high_level first second b k) in
            let q = second.joins _ _ (low_level first second a) (low_level first second b) in
            (p.0 * n.count + q.0, product_join first second a b p.0 q.0 p.1 q.1);
        meets =
            λ a b h k.
            let p = first.meets _ _ (high_level first second a h) (high_level first second b k) in
            let q = second.meets _ _ (low_level first second a) (low_level first second b) in
            (p.0 * n.count + q.0, product_meet a b p.0 q.0 p.1 q.1);
        lowest = (x.0 * n.count + y.0, product_lowest first second x.0 y.0 x.1 y.1);
        highest = (v.0 * n.count + w.0, product_highest v.0 w.0 v.1 w.1);
      }

  pub pair_laws : Laws (pair m n)
  pair_laws =
      let P : Bool → Type 0 = λ t. ltb 65536 (m.count * n.count) ≡ t → Laws (cond t (chain 1) (product m n)) in
      (elim (ltb 65536 (m.count * n.count)) as P [ true ↦ λ e. chain_laws 1 (omega arith) (omega arith) | false ↦ λ e. product_laws (ltb-false _ _ e) ]) refl

  pair_small : m.count * n.count ≤ 65536 → pair m n ≡ product m n
  pair_small h = cond-false (ltb 65536 (m.count * n.count)) (chain 1) (product m n) (le-ltb 65536 (m.count * n.count) h)

  pub pair_lowest : (x y : ℕ) → m.count * n.count ≤ 65536 → Lowest m x → Lowest n y → Lowest (pair m n) (x * n.count + y)
  pair_lowest x y h p q = subst (λ (v : Meaning). Lowest v (x * n.count + y)) (sym (pair_small h)) (product_lowest first second x y p q)

  pub pair_highest : (x y : ℕ) → m.count * n.count ≤ 65536 → Highest m x → Highest n y → Highest (pair m n) (x * n.count + y)
  pair_highest x y h p q = subst (λ (v : Meaning). Highest v (x * n.count + y)) (sym (pair_small h)) (product_highest x y p q)

  module _ (a b x y : ℕ) (two : TwoLevels m n a b) where
    pub pair_joins : Joins m (a / n.count) (b / n.count) x → Joins n (a % n.count) (b % n.count) y → Joins (pair m n) a b (x * n.count + y)
    pair_joins p q =
        let j = product_join first second a b x y (p.between (high_level first second a two.left) (high_level first second b two.right)) (q.between (low_level first second a) (low_level first second b)) in
        subst (λ (v : Meaning). Joins v a b (x * n.count + y)) (sym (pair_small two.fits)) (record { between = λ _ _. j; otherwise = λ no. absurd (no two.left two.right) })

    pub pair_meets : Meets m (a / n.count) (b / n.count) x → Meets n (a % n.count) (b % n.count) y → Meets (pair m n) a b (x * n.count + y)
    pair_meets p q =
        let j = product_meet a b x y (p.between (high_level first second a two.left) (high_level first second b two.right)) (q.between (low_level first second a) (low_level first second b)) in
        subst (λ (v : Meaning). Meets v a b (x * n.count + y)) (sym (pair_small two.fits)) (record { between = λ _ _. j; otherwise = λ no. absurd (no two.left two.right) })

    -- the halves of a join and of a meet are levels
    pub join_halves : Joins m (a / n.count) (b / n.count) x → Joins n (a % n.count) (b % n.count) y → (x < m.count) × (y < n.count)
    join_halves p q = (
      (first.order.levels _ _ (p.between (high_level first second a two.left) (high_level first second b two.right)).left).1,
      (second.order.levels _ _ (q.between (low_level first second a) (low_level first second b)).left).1,
    )

    pub meet_halves : Meets m (a / n.count) (b / n.count) x → Meets n (a % n.count) (b % n.count) y → (x < m.count) × (y < n.count)
    meet_halves p q = (
      (first.order.levels _ _ (p.between (high_level first second a two.left) (high_level first second b two.right)).left).0,
      (second.order.levels _ _ (q.between (low_level first second a) (low_level first second b)).left).0,
    )

  -- otherwise the lowest level is both join and meet: one of the two is no level, or there is only one level
  module _ (a b r : ℕ) (none : TwoLevels m n a b → ⊥) where
    alone : (t : Bool) → ltb 65536 (m.count * n.count) ≡ t → Lowest (cond t (chain 1) (product m n)) r
        → Joins (cond t (chain 1) (product m n)) a b r × Meets (cond t (chain 1) (product m n)) a b r
    alone true e low =
        let one : r < 1 = low.level in (
          record {
            between = λ h k. record { left = grind (arith, nat_tests); right = grind (arith, nat_tests); least = λ t i j. grind (arith, nat_tests) };
            otherwise = λ _. low;
          },
          record {
            between = λ h k. record { left = grind (arith, nat_tests); right = grind (arith, nat_tests); greatest = λ t i j. grind (arith, nat_tests) };
            otherwise = λ _. low;
          },
        )
    alone false e low =
        let no = λ (h : a < m.count * n.count) (k : b < m.count * n.count). none (record { fits = ltb-false _ _ e; left = h; right = k }) in (
          record { between = λ h k. absurd (no h k); otherwise = λ _. low },
          record { between = λ h k. absurd (no h k); otherwise = λ _. low },
        )

    pub pair_alone : Lowest (pair m n) r → Joins (pair m n) a b r × Meets (pair m n) a b r
    pair_alone low = alone (ltb 65536 (m.count * n.count)) refl low
