use Rattle.std.proofs.Common.{◌≡◌, ℕ, ◌/◌, ◌%◌, ◌<◌, length, get_or}
use Rattle.lattice.specs.Meaning.{LeastAbove}
use Rattle.clearance.proofs.relation.joins_of.Given as goal

abbrev pub invariant-loop-k : goal.invariant-loop-k
invariant-loop-k g l =
    (length l.joins ≡ 256) × ((j : ℕ) → j < l.k → LeastAbove (g.R.Relation.relation l.r) (j / l.n) (j % l.n) (get_or l.joins j 0))
