use Rattle.clearance.specs.Tabled.{table_order, next_highest}
use Rattle.clearance.proofs.table.TableLattice.highest.Goals as goal

pub loop-t-preserved : goal.loop-t-preserved
loop-t-preserved c =
    let s = c.args.self.now in
    let order = table_order s.n _ s.joins s.meets s.some s.most s.sound in
    let r = c.least-high.ensures in
    ((order.levels _ _ r.left).1, next_highest order c.loop-t.high c.loop-t.t c.least-high.result r c.loop-t.invariant.1)
