use Rattle.std.proofs.Common.{◌≡◌, ℕ, ◌<◌, length, get_or}
use Rattle.clearance.specs.Text.{cell}
use Rattle.clearance.proofs.text.cells_of.Given as goal

abbrev pub invariant-loop-k : goal.invariant-loop-k
invariant-loop-k l = (length l.all ≡ 256) × ((j : ℕ) → j < l.k → get_or l.all j 0 ≡ cell l.n l.text j)
