-- When bytes are the table of a lattice.
use Rattle.std.specs.Prelude.{◌≡◌, ℕ, ◌*◌, ◌/◌, ◌%◌, ◌<◌, ◌≤◌, List, length, slice_index}
use Rattle.lattice.specs.Meaning.{Meaning, Below, Reflexive, Antisymmetric, Transitive, HasJoins, HasMeets, LeastAbove, GreatestBelow}
use Rattle.lattice.specs.Kinds.{table, reversed}
use Rattle.refusal.specs.declared.Refusal.{Refusal}
use Rattle.refusal.specs.declared.Refusal.TheVariants.{OutsideLimits, NotALattice}
use Rattle.std.proofs.lemmas.Bool.{and_parts, ltb-true}

abbrev pub Bits : List ℕ → Type 0
Bits bytes = (k : ℕ) → k < length bytes → slice_index bytes k ≤ 1

-- n × n bytes, each 0 or 1, that tell an order
pub record OrderTable (n : ℕ) (bytes : List ℕ) : Type 0 where
  pub size : length bytes ≡ n * n
  pub bits : Bits bytes
  pub reflexive : Reflexive (table n bytes)
  pub antisymmetric : Antisymmetric (table n bytes)
  pub transitive : Transitive (table n bytes)

-- an order in which every two levels have a join and a meet
pub record Sound (n : ℕ) (bytes : List ℕ) : Type 0 where
  pub order : OrderTable n bytes
  pub joins : HasJoins (table n bytes)
  pub meets : HasMeets (table n bytes)

-- place k of a list of answers is the join, or the meet, of row k / n and column k % n
abbrev pub ListsJoins : Meaning → List ℕ → Type 0
ListsJoins m xs = (k : ℕ) → k < m.count * m.count → LeastAbove m (k / m.count) (k % m.count) (slice_index xs k)

abbrev pub ListsMeets : Meaning → List ℕ → Type 0
ListsMeets m xs = (k : ℕ) → k < m.count * m.count → GreatestBelow m (k / m.count) (k % m.count) (slice_index xs k)

-- a sound table with its joins and meets worked out
pub record WorkedOut (n : ℕ) (bytes js ms : List ℕ) : Type 0 where
  pub sound : Sound n bytes
  pub joins : ListsJoins (table n bytes) js
  pub meets : ListsMeets (table n bytes) ms

-- what a relation relates are numbers below its count
abbrev pub Levels : Meaning → Type 0
Levels m = (a b : ℕ) → Below m a b → (a < m.count) × (b < m.count)

pub table_levels : (n : ℕ) (bytes : List ℕ) → Levels (table n bytes)
table_levels n bytes a b h = let p = and_parts _ _ h in (ltb-true a n p.0, ltb-true b n (and_parts _ _ p.1).0)

pub reversed_levels : {m : Meaning} → Levels m → Levels (reversed m)
reversed_levels l a b h = ((l b a h).1, (l b a h).0)

-- ---- refusals

-- a number of levels that a table may have
abbrev pub Countable : ℕ → Type 0
Countable n = (1 ≤ n) × (n ≤ 16)

-- f is the refusal of a table of n levels that has to be as P says: a bad count comes first
pub record TableRefused (n : ℕ) (P : Type 0) (f : Refusal) : Type 0 where
  pub uncounted : (Countable n → ⊥) → f ≡ OutsideLimits
  pub unsound : Countable n → (P → ⊥) × (f ≡ NotALattice)
