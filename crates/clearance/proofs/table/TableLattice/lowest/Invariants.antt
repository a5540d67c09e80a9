use Rattle.std.proofs.Common.{ℕ, ◌*◌, ◌<◌, take}
use Rattle.lattice.specs.Kinds.{table}
use Rattle.lattice.specs.Meaning.{Below}
use Rattle.clearance.proofs.table.TableLattice.lowest.Given as goal

abbrev pub invariant-loop-t : goal.invariant-loop-t
invariant-loop-t l =
    (l.low < l.self.n) × ((k : ℕ) → k < l.t → Below (table l.self.n (take (l.self.n * l.self.n) l.self.bytes)) l.low k)
