use Rattle.paths.proofs.conditions.+always_assigns.Given as goal

abbrev pub decreases-always_assigns : goal.decreases-always_assigns
decreases-always_assigns l = l.n
