use Rattle.std.proofs.Common.{◌<◌, sym, ap, ◌∙◌, arith}
use Rattle.refusal.specs.declared.Section.TheVariants.{Blocks}
use Rattle.language.specs.Machine.{gets}
use Rattle.records.specs.Layouts.{count_in}
use Rattle.records.specs.Trees.{design_of}
use Rattle.variables.specs.Variables.{value_of}
use Rattle.machine.proofs.Turns.{settles_all, gives_more, gives_here}
use Rattle.machine.proofs.state.State.gets_value.Goals as goal

pub loop-b-init : goal.loop-b-init
loop-b-init c =
    let e = settles_all c.args.self.now.file.now in
    (omega arith, ap (λ cs. gets (value_of c.args.self.now.held.now) cs c.args.v) e)

pub returns-then-block_writes : goal.returns-then-block_writes
returns-then-block_writes c =
    let low : c.loop-b.b < count_in c.args.self.now.file.now Blocks = omega (arith, c.count-b-end.ensures.is, c.loop-b-test.true) in
    gives_here c.args.self.now.file.now c.loop-b.values c.loop-b.b c.args.v (gets (value_of c.args.self.now.held.now) (design_of c.args.self.now.file.now).settled c.args.v) low (sym c.block_writes.ensures ∙ c.if-block_writes.true) c.loop-b.invariant.1

pub loop-b-preserved : goal.loop-b-preserved
loop-b-preserved c =
    let low : c.loop-b.b < count_in c.args.self.now.file.now Blocks = omega (arith, c.count-b-end.ensures.is, c.loop-b-test.true) in
    (omega (arith, low), gives_more c.args.self.now.file.now c.loop-b.values c.settle_block.new.held c.loop-b.b c.args.v (gets (value_of c.args.self.now.held.now) (design_of c.args.self.now.file.now).settled c.args.v) low c.settle_block.ensures (sym c.block_writes.ensures ∙ c.if-block_writes.false) c.loop-b.invariant.1)
