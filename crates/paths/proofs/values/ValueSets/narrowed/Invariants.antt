use Rattle.language.specs.Typing.{leaves}
use Rattle.records.specs.Trees.{expr_at}
use Rattle.paths.proofs.Narrowing.{Narrowed}
use Rattle.paths.proofs.values.ValueSets.narrowed.Given as goal

abbrev pub invariant-loop-v : goal.invariant-loop-v
invariant-loop-v l = Narrowed l.self (leaves (expr_at l.file l.e) l.way) l.fewer l.v
