use Rattle.std.proofs.Common.{rules}
use Rattle.clearance.specs.Squares.{square}
use Rattle.clearance.proofs.table.TableLattice.is_below.Goals as goal

pub slice_bounds-grid-end : goal.slice_bounds-grid-end
slice_bounds-grid-end c = let h = square c.args.self.now.n c.args.self.now.most in search rules
