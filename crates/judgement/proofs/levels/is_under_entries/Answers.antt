use Rattle.std.proofs.Common.{rules, tests, ℕ, ◌^◌, ◌<◌}
use Rattle.lattice.specs.Meaning.{Below}
use Rattle.lattice.proofs.Ranges.{all_below}
use Rattle.language.specs.Syntax.{entry}
use Rattle.records.specs.Trees.{design_of}
use Rattle.judgement.proofs.levels.is_under_entries.Goals as goal

pub returns : goal.returns
returns g c =
    let m = g.L.Lattice.meaning c.args.tester.now.lattice.now in
    let d = design_of c.args.tester.now.file.now in
    let P : ℕ → Type 0 = λ x. x < 2 ^ c.args.width → Below m c.args.k (entry d c.args.t x) in
    all_below _ _ _ _ P c.all.ensures.ran (λ x q h. search (rules, tests)) (λ x q h. search (rules, tests))
