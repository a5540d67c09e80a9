use Rattle.std.proofs.Common.{rules}
use Rattle.lattice.specs.Owners.{subset}
use Rattle.lattice.proofs.sets.SetsLattice.is_below.Goals as goal

pub returns-then-a-b-clause-subset : goal.returns-then-a-b-clause-subset
returns-then-a-b-clause-subset c = let same = subset c.args.self.now.owners c.args.a c.args.b in search rules

pub returns-else-a-b-clause-subset : goal.returns-else-a-b-clause-subset
returns-else-a-b-clause-subset c = let same = subset c.args.self.now.owners c.args.a c.args.b in search rules
