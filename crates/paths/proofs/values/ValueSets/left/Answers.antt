use Rattle.std.proofs.Common.{rules, false, ◌&&◌}
use Rattle.std.proofs.Math.Bool.{and_comm}
use Rattle.language.specs.Typing.{leaves}
use Rattle.records.specs.Trees.{expr_at}
use Rattle.variables.proofs.Made.{made}
use Rattle.paths.specs.Marks.{sets_of}
use Rattle.paths.proofs.values.ValueSets.left.Goals as goal

pub returns : goal.returns
returns c = λ x lt.
    made (λ i. leaves (expr_at c.args.file.now c.args.e) c.args.way c.args.v i && sets_of c.args.self.now c.args.v i) (λ i y q k. search (rules, and_comm)) c.from_fn.result false 16 x c.from_fn.ensures.items lt
