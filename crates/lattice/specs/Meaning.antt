-- What a lattice means: how many levels it has, and which level is at or below which. All that a lattice answers follows from these two.
use Rattle.std.specs.Prelude.{◌≡◌, ℕ, ◌<◌, ◌≤◌, Bool, true, List, [], ◌∷◌}

-- The levels are the numbers below `count`; `below a b` tells whether a is at or below b.
pub record Meaning : Type 0 where
  pub count : ℕ
  pub below : ℕ → ℕ → Bool

abbrev pub Below : Meaning → ℕ → ℕ → Type 0
Below m a b = m.below a b ≡ true

-- ---- the laws

abbrev pub Reflexive : Meaning → Type 0
Reflexive m = (a : ℕ) → a < m.count → Below m a a

abbrev pub Antisymmetric : Meaning → Type 0
Antisymmetric m = (a b : ℕ) → Below m a b → Below m b a → a ≡ b

abbrev pub Transitive : Meaning → Type 0
Transitive m = (a b c : ℕ) → Below m a b → Below m b c → Below m a c

-- what an order owes: of a number that is no level it says no
pub record Ordered (m : Meaning) : Type 0 where
  pub some : 1 ≤ m.count
  pub most : m.count ≤ 65536
  pub levels : (a b : ℕ) → Below m a b → (a < m.count) × (b < m.count)
  pub reflexive : Reflexive m
  pub antisymmetric : Antisymmetric m
  pub transitive : Transitive m

-- r is the least level at or above both a and b
pub record LeastAbove (m : Meaning) (a b r : ℕ) : Type 0 where
  pub left : Below m a r
  pub right : Below m b r
  pub least : (t : ℕ) → Below m a t → Below m b t → Below m r t

-- r is the greatest level at or below both a and b
pub record GreatestBelow (m : Meaning) (a b r : ℕ) : Type 0 where
  pub left : Below m r a
  pub right : Below m r b
  pub greatest : (t : ℕ) → Below m t a → Below m t b → Below m t r

pub record Lowest (m : Meaning) (r : ℕ) : Type 0 where
  pub level : r < m.count
  pub under : (t : ℕ) → t < m.count → Below m r t

pub record Highest (m : Meaning) (r : ℕ) : Type 0 where
  pub level : r < m.count
  pub over : (t : ℕ) → t < m.count → Below m t r

abbrev pub HasJoins : Meaning → Type 0
HasJoins m = (a b : ℕ) → a < m.count → b < m.count → (r : ℕ) × LeastAbove m a b r

abbrev pub HasMeets : Meaning → Type 0
HasMeets m = (a b : ℕ) → a < m.count → b < m.count → (r : ℕ) × GreatestBelow m a b r

-- what a lattice owes
pub record Laws (m : Meaning) : Type 0 where
  pub order : Ordered m
  pub joins : HasJoins m
  pub meets : HasMeets m
  pub lowest : (r : ℕ) × Lowest m r
  pub highest : (r : ℕ) × Highest m r

-- ---- what each answer is

-- a or b is no level
abbrev pub Stray : Meaning → ℕ → ℕ → Type 0
Stray m a b = a < m.count → b < m.count → ⊥

-- r is the answer of join: where a or b is no level, the lattice's own lowest level
pub record Joins (m : Meaning) (a b r : ℕ) : Type 0 where
  pub between : a < m.count → b < m.count → LeastAbove m a b r
  pub otherwise : Stray m a b → Lowest m r

-- r is the answer of meet
pub record Meets (m : Meaning) (a b r : ℕ) : Type 0 where
  pub between : a < m.count → b < m.count → GreatestBelow m a b r
  pub otherwise : Stray m a b → Lowest m r

-- ---- several levels at once

abbrev pub All : {A : Type 0} → (A → Type 0) → List A → Type 0
All P [] = Unit
All P (x ∷ xs) = P x × All P xs

-- t is at or above every one of the levels
abbrev pub EachBelow : Meaning → List ℕ → ℕ → Type 0
EachBelow m levels t = All (λ a. Below m a t) levels

-- j is the least level at or above every one of the levels; of none, the lowest
pub record Joined (m : Meaning) (levels : List ℕ) (j : ℕ) : Type 0 where
  pub level : j < m.count
  pub above : EachBelow m levels j
  pub least : (t : ℕ) → t < m.count → EachBelow m levels t → Below m j t
