use Rattle.language.proofs.tests_are_exact.Goals as goal
use Rattle.language.proofs.Exact.{tests_are_exact}

pub returns : goal.returns
returns c = tests_are_exact
