use Rattle.survey.proofs.Marking.{marks_two}
use Rattle.survey.proofs.marks.+mark_wrong.Goals as goal

pub returns-in-Both : goal.returns-in-Both
returns-in-Both t c = rw c.in-Both.ensures.tree (marks_two _ _ _ _ _ c.mark_wrong.ensures c.mark_wrong-in-Both.ensures)

pub returns-in-Choose : goal.returns-in-Choose
returns-in-Choose t c = rw c.in-Choose.ensures.tree (marks_two _ _ _ _ _ c.mark_wrong-in-Choose.ensures c.mark_wrong-in-Choose-2.ensures)
