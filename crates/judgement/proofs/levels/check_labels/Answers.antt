use Rattle.std.proofs.Common.{rules, arith}
use Rattle.std.proofs.lemmas.Result.{MatchResult-weaker}
use Rattle.records.specs.Trees.{design_of}
use Rattle.judgement.proofs.Bounds.{labels_from}
use Rattle.judgement.proofs.levels.check_labels.Goals as goal

pub returns : goal.returns
returns g c =
    let m = g.L.Lattice.meaning c.args.tester.now.lattice.now in
    let d = design_of c.args.tester.now.file.now in
    MatchResult-weaker c.refuse_unfine.result c.refuse_unfine.ensures
    (λ _ fine. labels_from m d (g.met.L.Lattice.lawful c.args.tester.now.lattice.now) (λ v h. let p = fine v (omega (arith, h, c.variable_count.ensures.is)) in search rules))
    (λ e x. record { at = x.0; is = search rules; found = record { here = λ h. let p = x.2 in search rules; lower = λ k h. let p = x.4 k h in search rules } })
