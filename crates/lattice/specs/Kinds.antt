-- What each kind of lattice means.
use Rattle.std.specs.Prelude.{◌≡◌, ℕ, ◌+◌, ◌*◌, ◌/◌, ◌%◌, ◌^◌, ◌<◌, ◌≤◌, cond, ◌&&◌, List, ◌==◌, bit_and, nat_le, nat_lt, slice_index}
use Rattle.lattice.specs.Meaning.{Meaning}

-- C, a chain of n levels: each is at or below those that follow it
abbrev pub chain : ℕ → Meaning
chain n = record { count = n; below = λ a b. nat_le a b && nat_lt b n }

-- S, the sets of k owners: a is at or below b where the bits that both have are all the bits of a
abbrev pub sets : ℕ → Meaning
sets k = record { count = 2 ^ k; below = λ a b. (bit_and a b == a) && nat_lt b (2 ^ k) }

-- the same by owners: bit i of a level is 1 where owner i belongs to the set
abbrev pub owner : ℕ → ℕ → ℕ
owner i a = a / 2 ^ i % 2

pub record Subset (k a b : ℕ) : Type 0 where
  pub left : a < 2 ^ k
  pub right : b < 2 ^ k
  pub owners : (i : ℕ) → owner i a ≡ 1 → owner i b ≡ 1

-- T, a table of n levels: row a, column b holds 1 where a is at or below b
abbrev pub table : ℕ → List ℕ → Meaning
table n bytes = record { count = n; below = λ a b. nat_lt a n && (nat_lt b n && slice_index bytes (a * n + b) == 1) }

-- level a × q + b for a level a of the first and b of the second, which has q levels; ordered by halves
abbrev pub product : Meaning → Meaning → Meaning
product m n =
    record {
      count = m.count * n.count;
      below = λ a b. m.below (a / n.count) (b / n.count) && n.below (a % n.count) (b % n.count);
    }

-- P, a pair: the product, or the one level 0 where the product would have more than 65,536 levels
abbrev pub pair : Meaning → Meaning → Meaning
pair m n = cond (nat_lt 65536 (m.count * n.count)) (chain 1) (product m n)

-- a and b are levels of a pair that is not too large
pub record TwoLevels (m n : Meaning) (a b : ℕ) : Type 0 where
  pub fits : m.count * n.count ≤ 65536
  pub left : a < m.count * n.count
  pub right : b < m.count * n.count

-- R, a lattice reversed: its order turned round
abbrev pub reversed : Meaning → Meaning
reversed m = record { count = m.count; below = λ a b. m.below b a }
