use Rattle.std.proofs.Common.{rules}
use Rattle.variables.proofs.Laws.{either_all}
use Rattle.variables.proofs.sets.VariableSet.union.Goals as goal

pub returns : goal.returns
returns c = either_all _ c.args.self.now c.args.other.now (λ v lt. let post = c.merged.ensures v lt in search (rules, post))
