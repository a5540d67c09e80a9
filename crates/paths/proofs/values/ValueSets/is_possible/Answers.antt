use Rattle.std.proofs.Common.{ℕ, ◌≤◌, rules, tests}
use Rattle.std.proofs.lemmas.Bool.{lt-ltb, ltb-true}
use Rattle.language.specs.Syntax.{count, var}
use Rattle.language.specs.Finite.{May}
use Rattle.records.specs.Trees.{design_of}
use Rattle.paths.specs.Marks.{sets_of}
use Rattle.lattice.proofs.Ranges.{all_below}
use Rattle.paths.proofs.values.ValueSets.is_possible.Goals as goal

pub returns : goal.returns
returns c =
    let d = design_of c.args.file.now in
    let P : ℕ → Type 0 = λ v. (var d v).width ≤ 4 → (x : ℕ) × May d (sets_of c.args.self.now) v x in
    let below = rw c.variable_count.ensures.is at (all_below _ _ _ _ P c.all.ensures.ran (λ x q k. search (rules, tests)) (λ x q k. search (rules, tests))) in
    (λ e v i. below.0 e v (ltb-true v (count d) i), λ all. below.1 (λ v l. all v (lt-ltb v (count d) l)))
