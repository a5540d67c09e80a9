use Rattle.std.proofs.Common.{ℕ, rules, tests}
use Rattle.language.specs.Finite.{May}
use Rattle.records.specs.Trees.{design_of}
use Rattle.paths.specs.Marks.{sets_of}
use Rattle.lattice.proofs.Ranges.{any_below}
use Rattle.paths.proofs.values.ValueSets.may_any.Goals as goal

pub returns : goal.returns
returns c =
    let P : ℕ → Type 0 = May (design_of c.args.file.now) (sets_of c.args.self.now) c.args.v in
    let found = any_below _ _ _ _ P c.any.ensures.ran (λ x q k. search (rules, tests)) (λ x q k. search (rules, tests)) in
    (λ e. let f = found.0 e in (f.0, f.2), λ m. found.1 (m.0, m.1.small, m.1))
