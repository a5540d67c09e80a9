use Rattle.std.proofs.Common.{rules, ◌<◌, false, get_or}
use Rattle.variables.proofs.Made.{given}
use Rattle.variables.proofs.sets.VariableSet.merged.Given as here
use Rattle.variables.proofs.sets.VariableSet.merged.Goals as goal

pub returns : goal.returns
returns g c = λ v lt.
    given (λ i y. i < 128 → here.F-post g c.args.by (get_or c.args.self.now.marks i false) (get_or c.args.other.now.marks i false) y) (λ i y q k. search rules) c.from_fn.result false 128 v c.from_fn.ensures.items lt lt
