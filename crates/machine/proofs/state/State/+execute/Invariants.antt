use Rattle.machine.proofs.state.State.+execute.Given as goal

abbrev pub decreases-execute : goal.decreases-execute
decreases-execute l = l.n
