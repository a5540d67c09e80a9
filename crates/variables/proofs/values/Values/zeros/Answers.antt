use Rattle.std.proofs.Common.{rules}
use Rattle.variables.proofs.Laws.{zero_values}
use Rattle.variables.proofs.values.Values.zeros.Goals as goal

pub returns : goal.returns
returns c = search (rules, zero_values)
