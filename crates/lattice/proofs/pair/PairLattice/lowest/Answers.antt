use Rattle.std.proofs.Common.{rules}
use Rattle.lattice.specs.Pairs.{pair_lowest}
use Rattle.lattice.proofs.pair.PairLattice.lowest.Goals as goal

pub returns-else-is_none : goal.returns-else-is_none
returns-else-is_none g c =
    let s = c.args.self.now in
    rw c.level.ensures (pair_lowest (g.met.A.Lattice.lawful s.first) (g.met.B.Lattice.lawful s.second) _ _ (search rules) c.lowest.ensures c.lowest-else-is_none.ensures)
