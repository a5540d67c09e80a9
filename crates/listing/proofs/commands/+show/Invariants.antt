use Rattle.listing.proofs.commands.+show.Given as goal

abbrev pub decreases-show : goal.decreases-show
decreases-show g l = l.n
