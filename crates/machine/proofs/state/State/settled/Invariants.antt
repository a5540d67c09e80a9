use Rattle.std.proofs.Common.{◌≤◌}
use Rattle.refusal.specs.declared.Section.TheVariants.{Blocks}
use Rattle.language.specs.Machine.{values}
use Rattle.records.specs.Layouts.{count_in}
use Rattle.records.specs.Trees.{design_of}
use Rattle.variables.specs.Variables.{value_of}
use Rattle.machine.proofs.Turns.{Leaves}
use Rattle.machine.proofs.state.State.settled.Given as goal

abbrev pub invariant-loop-b : goal.invariant-loop-b
invariant-loop-b l =
    (l.b ≤ count_in l.self.file.now Blocks)
    × Leaves l.self.file.now l.settled l.b (values (design_of l.self.file.now) (value_of l.self.held.now))
