use Rattle.lattice.specs.Pairs.{pair_alone, pair_meets, meet_halves}
use Rattle.lattice.proofs.pair.PairLattice.meet.Goals as goal

pub returns-in_default : goal.returns-in_default
returns-in_default g c =
    let s = c.args.self.now in
    (pair_alone (g.met.A.Lattice.lawful s.first) (g.met.B.Lattice.lawful s.second) _ _ _ c.in_default.ensures c.lowest.ensures).1

pub level-requires : goal.level-requires
level-requires g c =
    let s = c.args.self.now in
    let found = c.in-Some.ensures in
    let halves =
    meet_halves (g.met.A.Lattice.lawful s.first) (g.met.B.Lattice.lawful s.second) _ _ _ _ found.0
    (rw found.1 at c.meet.ensures) (rw found.1 at c.meet-2.ensures) in
    record { product_bound = found.0.fits; a_bound = halves.0; b_bound = halves.1 }

pub returns : goal.returns
returns g c =
    let s = c.args.self.now in
    let found = c.in-Some.ensures in
    rw c.level.ensures
    (pair_meets (g.met.A.Lattice.lawful s.first) (g.met.B.Lattice.lawful s.second) _ _ _ _ found.0
    (rw found.1 at c.meet.ensures) (rw found.1 at c.meet-2.ensures))
