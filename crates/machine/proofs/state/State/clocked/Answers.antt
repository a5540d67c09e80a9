use Rattle.std.proofs.Common.{◌<◌, ap, ◌∙◌, arith}
use Rattle.refusal.specs.declared.Section.TheVariants.{Blocks}
use Rattle.language.specs.Syntax.{together}
use Rattle.language.specs.Machine.{after}
use Rattle.records.specs.Layouts.{count_in}
use Rattle.variables.specs.Variables.{value_of}
use Rattle.machine.proofs.Turns.{clocks_all, clock_more}
use Rattle.machine.proofs.state.State.clocked.Goals as goal

pub loop-b-init : goal.loop-b-init
loop-b-init c = (omega arith, λ v lt. ap (λ cs. after (value_of c.args.self.now.held.now) (value_of c.args.held.now) (together cs) v) (clocks_all c.args.self.now.file.now))

pub loop-b-preserved : goal.loop-b-preserved
loop-b-preserved c =
    let low : c.loop-b.b < count_in c.args.self.now.file.now Blocks = omega (arith, c.count-b-end.ensures.is, c.loop-b-test.true) in
    (omega (arith, low), λ v lt. clock_more c.args.self.now.file.now (value_of c.args.self.now.held.now) c.loop-b.next c.clock_block.new.next c.loop-b.b low c.clock_block.ensures v lt ∙ c.loop-b.invariant.1 v lt)
