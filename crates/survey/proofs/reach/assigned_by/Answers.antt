use Rattle.std.proofs.Common.{◌<◌, length, refl, ◌∙◌, arith, length-set}
use Rattle.records.specs.Trees.{body_at}
use Rattle.survey.specs.Sets.{Reaches}
use Rattle.survey.proofs.Marking.{reaches_none, reaches_more, apart_more}
use Rattle.survey.proofs.reach.assigned_by.Goals as goal

pub loop-b-init : goal.loop-b-init
loop-b-init c = (refl, record { together = reaches_none c.args.file.now c.nothing-all.result c.nothing-all.ensures; apart = λ b lt. absurd (omega (arith, lt)) })

pub loop-b-preserved : goal.loop-b-preserved
loop-b-preserved c =
    let f = c.args.file.now in
    let so_far = c.loop-b.invariant.1 in
    let here : Reaches (body_at f c.loop-b.b) c.reach_of-here.result = rw c.block.ensures at c.reach_of-here.ensures in
    let room : c.loop-b.b < length c.loop-b.each = omega (arith, c.loop-b.invariant.0, c.count-b-end.ensures.most, c.loop-b-test.true) in (
      length-set c.loop-b.each c.loop-b.b _ ∙ c.loop-b.invariant.0,
      record {
        together = reaches_more f c.loop-b.b c.then-all.result (c.then-all.ensures _ _ so_far.together here);
        apart = apart_more f c.loop-b.b c.loop-b.each _ room (record { own = here.some; before = so_far.together.some }) so_far.apart;
      },
    )
