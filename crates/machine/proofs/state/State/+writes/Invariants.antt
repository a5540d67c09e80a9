use Rattle.machine.proofs.state.State.+writes.Given as goal

abbrev pub decreases-writes : goal.decreases-writes
decreases-writes l = l.n
