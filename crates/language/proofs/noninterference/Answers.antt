use Rattle.language.proofs.noninterference.Goals as goal
use Rattle.language.proofs.Runs.{noninterference}

pub returns : goal.returns
returns c = noninterference
