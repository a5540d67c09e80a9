use Rattle.std.proofs.Common.{rules, ◌<◌, subst, sym}
use Rattle.variables.proofs.Laws.{value_low}
use Rattle.variables.proofs.Made.{given}
use Rattle.variables.proofs.values.Values.from_fn.Given as here
use Rattle.variables.proofs.values.Values.from_fn.Goals as goal

pub returns : goal.returns
returns g c = λ v lt.
    subst (here.F-post g c.args.value v) (sym (value_low _ v lt))
    (given (λ i y. i < 128 → here.F-post g c.args.value i y) (λ i y q k. search rules) c.from_fn.result 0 128 v c.from_fn.ensures.items lt lt)
