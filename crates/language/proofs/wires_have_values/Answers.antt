use Rattle.language.proofs.wires_have_values.Goals as goal
use Rattle.language.proofs.Runs.{wires_have_values}

pub returns : goal.returns
returns c = wires_have_values
