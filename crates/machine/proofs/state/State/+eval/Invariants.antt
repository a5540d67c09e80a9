use Rattle.machine.proofs.state.State.+eval.Given as goal

abbrev pub decreases-eval : goal.decreases-eval
decreases-eval l = l.e
