use Rattle.records.specs.Trees.{design_of}
use Rattle.machine.proofs.Targets.{low_clocked}
use Rattle.machine.proofs.Steps.{clock_is}
use Rattle.machine.proofs.calls.clock.Goals as goal

pub returns : goal.returns
returns c =
    clock_is (design_of c.args.file.now) c.args.held.now c.settled-values.result c.clocked-next.result c.clear.result (low_clocked c.args.file.now) c.settled-values.ensures c.clocked-next.ensures c.clear.ensures
