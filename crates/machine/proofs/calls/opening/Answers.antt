use Rattle.std.proofs.Common.{rules}
use Rattle.language.specs.Machine.{opening}
use Rattle.records.specs.Trees.{design_of}
use Rattle.variables.proofs.Laws.{value_all}
use Rattle.machine.proofs.Steps.{opening_past}
use Rattle.machine.proofs.calls.opening.Goals as goal

pub returns : goal.returns
returns c = value_all c.from_fn.result (opening (design_of c.args.file.now)) (opening_past c.args.file.now) (λ v lt. search (rules, c.from_fn.ensures v lt))
