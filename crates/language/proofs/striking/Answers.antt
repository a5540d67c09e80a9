use Rattle.language.proofs.striking.Goals as goal
use Rattle.language.proofs.Struck.{striking}

pub returns : goal.returns
returns c = striking
