-- A sound table keeps the laws.
use Rattle.std.proofs.Common.{ℕ, zero, suc, ◌+◌, ◌*◌, ◌<◌, ◌≤◌, List, get_or, arith, below_more}
use mathlib.Core.Bool.{Bool-set}
use mathlib.Core.Logic.{∥∥₁_elim}
use native.Mathlib.Nat.{ℕ_set}
use Rattle.std.proofs.lemmas.Nat.{div-mul-add, mod-mul-add}
use Rattle.lattice.specs.Meaning.{Meaning, Below, Ordered, Laws, LeastAbove, GreatestBelow, HasJoins, HasMeets}
use Rattle.lattice.specs.Kinds.{table, reversed}
use Rattle.clearance.specs.Tables.{OrderTable, WorkedOut, ListsJoins, ListsMeets, table_levels}
use Rattle.clearance.specs.Squares.{cell_below}

-- what is least above in a relation turned round is greatest below
pub turn : {m : Meaning} (a b r : ℕ) → LeastAbove (reversed m) a b r → GreatestBelow m a b r
turn a b r l = record { left = l.left; right = l.right; greatest = l.least }

pub turn_back : {m : Meaning} (a b r : ℕ) → GreatestBelow m a b r → LeastAbove (reversed m) a b r
turn_back a b r g = record { left = g.left; right = g.right; least = g.greatest }

-- the answers in a list, by row and column
pub listed_join : (m : Meaning) (xs : List ℕ) → ListsJoins m xs → (a b : ℕ) → a < m.count → b < m.count → LeastAbove m a b (get_or xs (a * m.count + b) 0)
listed_join m xs all a b h k =
    let at = all (a * m.count + b) (cell_below m.count a b h k) in
    rw (div-mul-add a m.count b k, mod-mul-add a m.count b k) at at

pub listed_meet : (m : Meaning) (xs : List ℕ) → ListsMeets m xs → (a b : ℕ) → a < m.count → b < m.count → GreatestBelow m a b (get_or xs (a * m.count + b) 0)
listed_meet m xs all a b h k =
    let at = all (a * m.count + b) (cell_below m.count a b h k) in
    rw (div-mul-add a m.count b k, mod-mul-add a m.count b k) at at

-- one level more under, or over, the one that is kept
pub next_lowest : {m : Meaning} → Ordered m → (low t r : ℕ) → GreatestBelow m low t r → ((k : ℕ) → k < t → Below m low k) → (k : ℕ) → k < t + 1 → Below m r k
next_lowest {m} order low t r g inv = below_more (λ (k : ℕ). Below m r k) t (λ k h. order.transitive r low k g.left (inv k h)) g.right

pub next_highest : {m : Meaning} → Ordered m → (high t r : ℕ) → LeastAbove m high t r → ((k : ℕ) → k < t → Below m k high) → (k : ℕ) → k < t + 1 → Below m k r
next_highest {m} order high t r l inv = below_more (λ (k : ℕ). Below m k r) t (λ k h. order.transitive k high r (inv k h) l.left) l.right

-- so an order with meets has a lowest level, and one with joins a highest
module _ {m : Meaning} (order : Ordered m) where
  under : HasMeets m → (n : ℕ) → n ≤ m.count → (r : ℕ) × ((r < m.count) × ((k : ℕ) → k < n → Below m r k))
  under meets zero h = (0, (order.some, λ k l. absurd (omega arith)))
  under meets (suc n) h =
      let before = under meets n (omega arith) in
      let met = meets before.0 n before.1.0 h in
      (met.0, ((order.levels _ _ met.1.left).0, λ k l. next_lowest order before.0 n met.0 met.1 before.1.1 k (omega arith)))

  over : HasJoins m → (n : ℕ) → n ≤ m.count → (r : ℕ) × ((r < m.count) × ((k : ℕ) → k < n → Below m k r))
  over joins zero h = (0, (order.some, λ k l. absurd (omega arith)))
  over joins (suc n) h =
      let before = over joins n (omega arith) in
      let joined = joins before.0 n before.1.0 h in
      (joined.0, ((order.levels _ _ joined.1.left).1, λ k l. next_highest order before.0 n joined.0 joined.1 before.1.1 k (omega arith)))

  pub laws_from : HasJoins m → HasMeets m → Laws m
  laws_from joins meets =
      let low = under meets m.count (omega arith) in
      let high = over joins m.count (omega arith) in
      record {
        order = order;
        joins = joins;
        meets = meets;
        lowest = (low.0, record { level = low.1.0; under = low.1.1 });
        highest = (high.0, record { level = high.1.0; over = high.1.1 });
      }

module _ (n : ℕ) (bytes js ms : List ℕ) (some : 1 ≤ n) (most : n ≤ 16) (whole : ∥ WorkedOut n bytes js ms ∥₁) where
  pub table_order : Ordered (table n bytes)
  table_order = record {
    some = some;
    most = omega arith;
    levels = table_levels n bytes;
    reflexive = λ a h. ∥∥₁_elim whole (Bool-set _ _) (λ w. w.sound.order.reflexive a h);
    antisymmetric = λ a b h k. ∥∥₁_elim whole (ℕ_set _ _) (λ w. w.sound.order.antisymmetric a b h k);
    transitive = λ a b c h k. ∥∥₁_elim whole (Bool-set _ _) (λ w. w.sound.order.transitive a b c h k);
  }

  pub table_join : (a b : ℕ) → a < n → b < n → LeastAbove (table n bytes) a b (get_or js (a * n + b) 0)
  table_join a b h k = record {
    left = ∥∥₁_elim whole (Bool-set _ _) (λ w. (listed_join _ js w.joins a b h k).left);
    right = ∥∥₁_elim whole (Bool-set _ _) (λ w. (listed_join _ js w.joins a b h k).right);
    least = λ t p q. ∥∥₁_elim whole (Bool-set _ _) (λ w. (listed_join _ js w.joins a b h k).least t p q);
  }

  pub table_meet : (a b : ℕ) → a < n → b < n → GreatestBelow (table n bytes) a b (get_or ms (a * n + b) 0)
  table_meet a b h k = record {
    left = ∥∥₁_elim whole (Bool-set _ _) (λ w. (listed_meet _ ms w.meets a b h k).left);
    right = ∥∥₁_elim whole (Bool-set _ _) (λ w. (listed_meet _ ms w.meets a b h k).right);
    greatest = λ t p q. ∥∥₁_elim whole (Bool-set _ _) (λ w. (listed_meet _ ms w.meets a b h k).greatest t p q);
  }

  pub table_laws : Laws (table n bytes)
  table_laws = laws_from table_order (λ a b h k. (get_or js (a * n + b) 0, table_join a b h k)) (λ a b h k. (get_or ms (a * n + b) 0, table_meet a b h k))

-- the joins of an order and of the order turned round make it a sound table
pub worked_out : {n : ℕ} {bytes : List ℕ} (js ms : List ℕ) → OrderTable n bytes → ListsJoins (table n bytes) js → ListsJoins (reversed (table n bytes)) ms → WorkedOut n bytes js ms
worked_out {n} {bytes} js ms order joins turned =
    let meets : ListsMeets (table n bytes) ms = λ k h. turn _ _ _ (turned k h) in
    record {
      sound =
          record {
            order = order;
            joins = λ a b h k. (get_or js (a * n + b) 0, listed_join (table n bytes) js joins a b h k);
            meets = λ a b h k. (get_or ms (a * n + b) 0, listed_meet (table n bytes) ms meets a b h k);
          };
      joins = joins;
      meets = meets;
    }
