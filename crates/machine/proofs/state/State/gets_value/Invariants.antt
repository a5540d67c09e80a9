use Rattle.std.proofs.Common.{◌≡◌, ◌≤◌}
use Rattle.refusal.specs.declared.Section.TheVariants.{Blocks}
use Rattle.language.specs.Machine.{gets}
use Rattle.records.specs.Layouts.{count_in}
use Rattle.records.specs.Trees.{design_of}
use Rattle.variables.specs.Variables.{value_of}
use Rattle.machine.proofs.Turns.{settles}
use Rattle.machine.proofs.state.State.gets_value.Given as goal

abbrev pub invariant-loop-b : goal.invariant-loop-b
invariant-loop-b l =
    (l.b ≤ count_in l.self.file.now Blocks)
    × (gets (value_of l.values) (settles l.self.file.now l.b) l.v ≡ gets (value_of l.self.held.now) (design_of l.self.file.now).settled l.v)
