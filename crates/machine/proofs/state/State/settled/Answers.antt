use Rattle.std.proofs.Common.{◌<◌, ap, arith}
use Rattle.refusal.specs.declared.Section.TheVariants.{Blocks}
use Rattle.language.specs.Machine.{settle, values}
use Rattle.records.specs.Layouts.{count_in}
use Rattle.records.specs.Trees.{design_of}
use Rattle.variables.specs.Variables.{value_of}
use Rattle.machine.proofs.Turns.{settles_all, settle_more}
use Rattle.machine.proofs.state.State.settled.Goals as goal

pub loop-b-init : goal.loop-b-init
loop-b-init c =
    let e = settles_all c.args.self.now.file.now in
    (omega arith, λ v. ap (λ cs. settle (value_of c.args.self.now.held.now) cs v) e)

pub loop-b-preserved : goal.loop-b-preserved
loop-b-preserved c =
    let low : c.loop-b.b < count_in c.args.self.now.file.now Blocks = omega (arith, c.count-b-end.ensures.is, c.loop-b-test.true) in
    (omega (arith, low), settle_more c.args.self.now.file.now c.loop-b.settled c.settle_block.new.held c.loop-b.b (values (design_of c.args.self.now.file.now) (value_of c.args.self.now.held.now)) low c.settle_block.ensures c.loop-b.invariant.1)
