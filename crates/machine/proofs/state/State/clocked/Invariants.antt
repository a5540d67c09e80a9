use Rattle.std.proofs.Common.{◌≡◌, ℕ, ◌<◌, ◌≤◌}
use Rattle.refusal.specs.declared.Section.TheVariants.{Blocks}
use Rattle.language.specs.Syntax.{together}
use Rattle.language.specs.Machine.{after}
use Rattle.records.specs.Layouts.{count_in}
use Rattle.records.specs.Trees.{design_of}
use Rattle.variables.specs.Variables.{value_of}
use Rattle.machine.proofs.Turns.{clocks}
use Rattle.machine.proofs.state.State.clocked.Given as goal

abbrev pub invariant-loop-b : goal.invariant-loop-b
invariant-loop-b l =
    (l.b ≤ count_in l.self.file.now Blocks)
    × ((v : ℕ) → v < 128 → after (value_of l.self.held.now) (value_of l.next) (together (clocks l.self.file.now l.b)) v ≡ after (value_of l.self.held.now) (value_of l.held) (together (design_of l.self.file.now).clocked) v)
