use Rattle.std.proofs.Common.{rules, false, Decides}
use Rattle.language.specs.Finite.{Tries, level_at}
use Rattle.records.specs.Trees.{design_of}
use Rattle.variables.proofs.Made.{given, made}
use Rattle.paths.specs.Marks.{place_of, sets_of}
use Rattle.paths.proofs.trials.Trials.at.Goals as goal

pub returns-clause-tabled : goal.returns-clause-tabled
returns-clause-tabled c =
    let d = design_of c.args.file.now in
    let sets = sets_of c.args.sets.now in
    let p = place_of c.args.origin in
    record {
      tried = λ x lt. given (λ i b. Decides b (Tries d sets p i)) (λ i y q k. search rules) c.from_fn.result false 16 x c.from_fn.ensures.items lt;
      levels = λ x lt. made (level_at d p) (λ i y q k. search rules) c.from_fn-2.result 0 16 x c.from_fn-2.ensures.items lt;
      few = search rules;
    }
