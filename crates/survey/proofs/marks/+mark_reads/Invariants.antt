use Rattle.survey.proofs.marks.+mark_reads.Given as goal

abbrev pub decreases-mark-reads : goal.decreases-mark-reads
decreases-mark-reads l = l.e
