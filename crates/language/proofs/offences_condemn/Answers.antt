use Rattle.language.proofs.offences_condemn.Goals as goal
use Rattle.language.proofs.Offences.{offences_condemn}

pub returns : goal.returns
returns c = offences_condemn
