use Rattle.survey.proofs.marks.+mark_early.Given as goal

abbrev pub decreases-mark_early : goal.decreases-mark_early
decreases-mark_early l = l.n
