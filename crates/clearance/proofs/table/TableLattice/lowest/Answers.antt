use Rattle.clearance.specs.Tabled.{table_order, next_lowest}
use Rattle.clearance.proofs.table.TableLattice.lowest.Goals as goal

pub loop-t-preserved : goal.loop-t-preserved
loop-t-preserved c =
    let s = c.args.self.now in
    let order = table_order s.n _ s.joins s.meets s.some s.most s.sound in
    let r = c.greatest-low.ensures in
    ((order.levels _ _ r.left).0, next_lowest order c.loop-t.low c.loop-t.t c.greatest-low.result r c.loop-t.invariant.1)
