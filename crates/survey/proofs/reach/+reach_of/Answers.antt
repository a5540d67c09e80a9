use Rattle.survey.proofs.reach.+reach_of.Goals as goal

pub returns-in-Both : goal.returns-in-Both
returns-in-Both t c = rw c.in-Both.ensures.tree (c.then.ensures _ _ c.reach_of.ensures c.reach_of-in-Both.ensures)

pub returns-in-Choose : goal.returns-in-Choose
returns-in-Choose t c = rw c.in-Choose.ensures.tree (c.or.ensures _ _ _ c.reach_of-in-Choose.ensures c.reach_of-in-Choose-2.ensures)

pub returns-in-Assign : goal.returns-in-Assign
returns-in-Assign t c = rw c.in-Assign.ensures.tree (c.assigning.ensures _ _)
