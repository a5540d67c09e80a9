use Rattle.survey.proofs.marks.+mark_wrong.Given as goal

abbrev pub decreases-mark_wrong : goal.decreases-mark_wrong
decreases-mark_wrong l = l.n
