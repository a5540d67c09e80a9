use Rattle.std.proofs.Common.{rules}
use Rattle.language.specs.Machine.{clear}
use Rattle.records.specs.Trees.{design_of}
use Rattle.variables.specs.Variables.{value_of}
use Rattle.variables.proofs.Laws.{value_all}
use Rattle.machine.proofs.Steps.{clear_past}
use Rattle.machine.proofs.state.State.clear.Goals as goal

pub returns : goal.returns
returns c =
    value_all c.from_fn.result
    (clear (design_of c.args.self.now.file.now) (value_of c.args.self.now.held.now) (value_of c.args.next.now))
    (clear_past (design_of c.args.self.now.file.now) (value_of c.args.self.now.held.now) c.args.next.now)
    (λ v lt. search (rules, c.from_fn.ensures v lt))
