use Rattle.paths.proofs.path.+mark_reads.Given as goal

abbrev pub decreases-mark_reads : goal.decreases-mark_reads
decreases-mark_reads l = l.e
