use Rattle.std.proofs.Common.{arith}
use Rattle.clearance.specs.Squares.{square}
use Rattle.clearance.proofs.text.read_table.Goals as goal

pub slice_bounds-new-end : goal.slice_bounds-new-end
slice_bounds-new-end c = omega (arith, square c.line_count-n.result (omega arith))
