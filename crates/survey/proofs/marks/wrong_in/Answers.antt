use Rattle.std.proofs.Common.{refl, ◌∙◌}
use Rattle.survey.specs.Sets.{writes_wrong}
use Rattle.survey.proofs.Marking.{marked_none, marked_more}
use Rattle.survey.proofs.marks.wrong_in.Goals as goal

pub loop-b-init : goal.loop-b-init
loop-b-init c = (refl, marked_none 512 (writes_wrong c.args.file.now))

pub loop-b-preserved : goal.loop-b-preserved
loop-b-preserved c = (
  c.mark_wrong.auto.marks ∙ c.loop-b.invariant.0,
  marked_more _ _ (writes_wrong c.args.file.now) c.loop-b.b c.loop-b.invariant.1 (rw (c.is_settled.ensures, c.block-block.ensures) at c.mark_wrong.ensures),
)
