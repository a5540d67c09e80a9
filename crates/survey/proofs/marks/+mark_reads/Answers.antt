use Rattle.std.proofs.Common.{⊎_elim}
use Rattle.survey.proofs.Marking.{marks_two}
use Rattle.survey.proofs.marks.+mark_reads.Goals as goal

pub returns-in-Pair : goal.returns-in-Pair
returns-in-Pair t c =
    let both = marks_two _ _ _ _ _ c.mark_reads-in-Pair.ensures c.mark_reads-in-Pair-2.ensures in
    ⊎_elim (λ pair. rw (c.node.ensures.tree, pair.2) both) (λ above. rw (c.node.ensures.tree, above.1) both) c.in-Pair.is

pub returns-in-Choose : goal.returns-in-Choose
returns-in-Choose t c =
    rw c.in-Choose.ensures.tree (marks_two _ _ _ _ _ c.mark_reads.ensures (marks_two _ _ _ _ _ c.mark_reads-in-Choose.ensures c.mark_reads-in-Choose-2.ensures))
