use Rattle.std.proofs.Common.{rules}
use Rattle.lattice.specs.Pairs.{pair_highest}
use Rattle.lattice.proofs.pair.PairLattice.highest.Goals as goal

pub returns-else-is_none : goal.returns-else-is_none
returns-else-is_none g c =
    let s = c.args.self.now in
    rw c.level.ensures (pair_highest (g.met.A.Lattice.lawful s.first) (g.met.B.Lattice.lawful s.second) _ _ (search rules) c.highest.ensures c.highest-else-is_none.ensures)
