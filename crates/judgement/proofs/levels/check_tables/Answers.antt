use Rattle.std.proofs.Common.{rules, ℕ, ◌<◌, arith}
use Rattle.std.proofs.lemmas.Result.{MatchResult-weaker}
use Rattle.language.specs.Syntax.{entry}
use Rattle.records.specs.Trees.{design_of}
use Rattle.judgement.proofs.Bounds.{table_levels, tables_from}
use Rattle.judgement.proofs.levels.check_tables.Goals as goal

pub returns : goal.returns
returns g c =
    let m = g.L.Lattice.meaning c.args.tester.now.lattice.now in
    let laws = g.met.L.Lattice.lawful c.args.tester.now.lattice.now in
    let f = c.args.tester.now.file.now in
    let d = design_of f in
    MatchResult-weaker c.refuse_unfine.result c.refuse_unfine.ensures
    (λ _ fine. tables_from m d laws (λ t h. table_levels m laws f t (let p = fine t (omega (arith, h, c.table_count.ensures)) in search rules)))
    (λ e x. record {
      at = x.0;
      is = search rules;
      found = record {
        here = λ h. let p = x.2 in let q : (i : ℕ) → i < 16 → entry d x.0 i < m.count = λ i _. h i in search rules;
        lower = λ k h. table_levels m laws f k (let p = x.4 k h in search rules);
      };
    })
