use Rattle.std.proofs.Common.{◌<◌, refl, ◌∙◌, arith}
use Rattle.refusal.specs.declared.Section.TheVariants.{Blocks}
use Rattle.language.specs.Form.{assigns}
use Rattle.records.specs.Layouts.{count_in}
use Rattle.survey.specs.Walks.{blocks_to}
use Rattle.survey.specs.Sets.{reads_early}
use Rattle.survey.proofs.Marking.{same_unready, marked_none, marked_more}
use Rattle.survey.proofs.marks.early_in.Goals as goal

pub loop-b-init : goal.loop-b-init
loop-b-init c = (refl, marked_none 1024 (reads_early c.args.file.now))

pub loop-b-preserved : goal.loop-b-preserved
loop-b-preserved c =
    let f = c.args.file.now in
    let low : c.loop-b.b < count_in f Blocks = omega (arith, c.count-b-end.ensures.is, c.loop-b-test.true) in
    let known = same_unready f _ (assigns (blocks_to f c.loop-b.b)) (c.requires.apart c.loop-b.b low).before in (
      c.mark_early.auto.marks ∙ c.loop-b.invariant.0,
      marked_more _ _ (reads_early f) c.loop-b.b c.loop-b.invariant.1 (rw (← known) (rw c.block.ensures at c.mark_early.ensures)),
    )
