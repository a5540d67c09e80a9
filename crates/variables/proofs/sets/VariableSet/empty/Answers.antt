use Rattle.std.proofs.Common.{rules}
use Rattle.variables.proofs.Laws.{no_marks}
use Rattle.variables.proofs.sets.VariableSet.empty.Goals as goal

pub returns : goal.returns
returns c = search (rules, no_marks)
