use Rattle.std.proofs.Common.{◌≡◌, ◌+◌, sym, subst, arith}
use Rattle.refusal.specs.declared.Section.TheVariants.{Blocks}
use Rattle.records.specs.Layouts.{count_in}
use Rattle.judgement.specs.Findings.{StayedTo}
use Rattle.judgement.proofs.Lowest.{stayed_more, stayed_whole}
use Rattle.judgement.proofs.staying.lowest.Goals as goal

pub loop-b-preserved : goal.loop-b-preserved
loop-b-preserved g c =
    let m = g.L.Lattice.meaning c.args.tester.now.lattice.now in
    let f = c.args.tester.now.file.now in
    subst (StayedTo m f (c.loop-b.b + 1)) (sym c.lower-found.ensures)
    (stayed_more m f c.loop-b.b c.loop-b.found c.lowest_in_block.result c.loop-b.invariant c.lowest_in_block.ensures)

pub returns : goal.returns
returns g c =
    let is : c.loop-b.b ≡ count_in c.args.tester.now.file.now Blocks = omega (arith, c.count-b-end.ensures.is) in
    stayed_whole (g.L.Lattice.meaning c.args.tester.now.lattice.now) c.args.tester.now.file.now c.loop-b.b c.loop-b.found is c.loop-b.invariant
