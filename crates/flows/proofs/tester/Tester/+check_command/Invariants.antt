use Rattle.flows.proofs.tester.Tester.+check_command.Given as goal

abbrev pub decreases-check_command : goal.decreases-check_command
decreases-check_command g l = l.n
