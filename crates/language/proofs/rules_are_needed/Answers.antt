use Rattle.language.proofs.rules_are_needed.Goals as goal
use Rattle.language.proofs.Leaks.{leaks}

pub returns : goal.returns
returns c = leaks
