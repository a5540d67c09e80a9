use Rattle.judgement.proofs.staying.+lowest_in.Given as goal

abbrev pub decreases-lowest_in : goal.decreases-lowest_in
decreases-lowest_in g l = l.n
