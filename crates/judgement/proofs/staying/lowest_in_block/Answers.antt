use Rattle.std.proofs.Common.{rules, ◌≡◌, false, [], subst}
use Rattle.records.specs.declared.cells.Block.{Block}
use Rattle.records.specs.Trees.{settled_at, cmd_at, design_of}
use Rattle.judgement.specs.Findings.{Stayed}
use Rattle.judgement.proofs.Lowest.{stayed_clocked}
use Rattle.judgement.proofs.staying.lowest_in_block.Goals as goal

pub returns : goal.returns
returns g c =
    let m = g.L.Lattice.meaning c.args.tester.now.lattice.now in
    let f = c.args.tester.now.file.now in
    let off : settled_at f c.args.b ≡ false =
    search rules in
    stayed_clocked m f c.args.b c.lowest_in.result off
    (subst (λ (x : Block). Stayed m (design_of f) [] (cmd_at f x.top) c.lowest_in.result) c.block-block.ensures (c.lowest_in.ensures [] c.start.ensures))
