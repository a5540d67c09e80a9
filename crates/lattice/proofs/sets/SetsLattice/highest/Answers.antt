use Rattle.lattice.specs.Owners.{sets_highest}
use Rattle.lattice.proofs.sets.SetsLattice.highest.Goals as goal

pub returns : goal.returns
returns c = rw c.count.ensures (sets_highest c.args.self.now.owners)
