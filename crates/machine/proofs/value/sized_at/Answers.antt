use Rattle.std.proofs.Common.{subst}
use Rattle.machine.specs.Widths.{Sized}
use Rattle.machine.proofs.Widths.{sized_expr}
use Rattle.machine.proofs.value.sized_at.Goals as goal

pub returns-clause-sized : goal.returns-clause-sized
returns-clause-sized c = subst Sized c.node.ensures.tree (sized_expr c.args.file.now c.args.e)
