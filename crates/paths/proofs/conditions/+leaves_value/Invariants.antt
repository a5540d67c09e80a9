use Rattle.paths.proofs.conditions.+leaves_value.Given as goal

abbrev pub decreases-leaves_value : goal.decreases-leaves_value
decreases-leaves_value l = l.e
