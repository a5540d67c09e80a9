use Rattle.std.proofs.Common.{arith}
use Rattle.clearance.specs.Squares.{square, cell_below}
use Rattle.clearance.specs.Tabled.{table_join}
use Rattle.clearance.proofs.table.Table.least.Goals as goal

pub bounds-self-a : goal.bounds-self-a
bounds-self-a c =
    let s = c.args.self.now in
    omega (arith, square s.n s.most, cell_below s.n c.args.a c.args.b c.requires.a_level c.requires.b_level)

pub returns : goal.returns
returns c =
    let s = c.args.self.now in
    rw c.from.ensures (table_join s.n _ s.joins s.meets s.some s.most s.sound c.args.a c.args.b c.requires.a_level c.requires.b_level)
