use Rattle.std.proofs.Common.{◌≡◌, ◌≤◌}
use Rattle.clearance.specs.Text.{tally, begins}
use Rattle.clearance.proofs.text.line_count.Given as goal

abbrev pub invariant-loop-i : goal.invariant-loop-i
invariant-loop-i l = (l.lines ≡ tally (begins l.text) l.i) × (l.lines ≤ l.i)
