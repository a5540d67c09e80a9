-- A chain keeps the laws.
use Rattle.std.proofs.Common.{ℕ, ◌-◌, ◌<◌, ◌≤◌, min, max, arith}
use Rattle.std.proofs.lemmas.Bool.Decides.{nat_tests}
use Rattle.lattice.specs.Meaning.{Ordered, Laws, LeastAbove, GreatestBelow, Lowest, Highest}
use Rattle.lattice.specs.Kinds.{chain}

pub chain_order : (n : ℕ) → 1 ≤ n → n ≤ 65536 → Ordered (chain n)
chain_order n some most = record {
  some = some;
  most = most;
  levels = λ a b h. grind (arith, nat_tests);
  reflexive = λ a h. grind (arith, nat_tests);
  antisymmetric = λ a b h k. grind (arith, nat_tests);
  transitive = λ a b c h k. grind (arith, nat_tests);
}

pub chain_join : (n a b : ℕ) → a < n → b < n → LeastAbove (chain n) a b (max a b)
chain_join n a b ha hb = record {
  left = grind (arith, nat_tests);
  right = grind (arith, nat_tests);
  least = λ t h k. grind (arith, nat_tests);
}

pub chain_meet : (n a b : ℕ) → a < n → b < n → GreatestBelow (chain n) a b (min a b)
chain_meet n a b ha hb = record {
  left = grind (arith, nat_tests);
  right = grind (arith, nat_tests);
  greatest = λ t h k. grind (arith, nat_tests);
}

pub chain_lowest : (n : ℕ) → 1 ≤ n → Lowest (chain n) 0
chain_lowest n some = record { level = some; under = λ t h. grind (arith, nat_tests) }

pub chain_highest : (n : ℕ) → 1 ≤ n → Highest (chain n) (n - 1)
chain_highest n some = record { level = omega arith; over = λ t h. grind (arith, nat_tests) }

pub chain_laws : (n : ℕ) → 1 ≤ n → n ≤ 65536 → Laws (chain n)
chain_laws n some most = record {
  order = chain_order n some most;
  joins = λ a b h k. (max a b, chain_join n a b h k);
  meets = λ a b h k. (min a b, chain_meet n a b h k);
  lowest = (0, chain_lowest n some);
  highest = (n - 1, chain_highest n some);
}
