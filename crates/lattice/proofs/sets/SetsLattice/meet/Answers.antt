use Rattle.std.proofs.Common.{rules}
use Rattle.lattice.specs.Owners.{sets_meets}
use Rattle.lattice.proofs.sets.SetsLattice.meet.Goals as goal

pub returns-then-are_levels : goal.returns-then-are_levels
returns-then-are_levels c = sets_meets c.args.self.now.owners _ _ (search rules) (search rules)
