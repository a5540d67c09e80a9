use Rattle.std.proofs.Common.{rules, ◌^◌, ◌<◌, sym, subst, ⊎_elim, arith, pow_pos}
use Rattle.std.proofs.lemmas.Bool.{cases_lt, ltb-true}
use Rattle.language.specs.Syntax.{count, var}
use Rattle.language.specs.Finite.{May}
use Rattle.records.specs.Trees.{design_of}
use Rattle.variables.specs.Variables.{value_of}
use Rattle.variables.proofs.Laws.{value_past}
use Rattle.paths.specs.Marks.{sets_of}
use Rattle.flows.proofs.Alike.{few}
use Rattle.flows.proofs.showing.some_values.Goals as goal

pub returns : goal.returns
returns c possible =
    let f = c.args.file.now in
    let d = design_of f in
    let sets = sets_of c.args.sets.now in
    let ρ = value_of c.from_fn.result in
    record {
      fits = λ v. ⊎_elim
          (λ (low : v < 128). let p = c.from_fn.ensures v low in search rules)
          (λ past. subst (λ x. x < 2 ^ (var d v).width) (sym (value_past c.from_fn.result v past)) (pow_pos (var d v).width))
          (cases_lt v 128);
      kept = λ v inside narrow.
          let low : v < 128 = omega (arith, ltb-true v (count d) inside, few f) in
          let some = possible v inside narrow in
          let p = c.from_fn.ensures v low in
          let may : May d sets v (ρ v) = search rules in
          may.left;
    }
