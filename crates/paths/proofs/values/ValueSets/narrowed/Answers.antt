use Rattle.std.proofs.Common.{sym, ◌∙◌}
use Rattle.std.proofs.lemmas.Bool.{or_parts}
use Rattle.language.specs.Typing.{leaves}
use Rattle.language.specs.Finite.{mentions}
use Rattle.variables.specs.Variables.{has}
use Rattle.records.specs.Trees.{expr_at}
use Rattle.paths.proofs.Unread.{unread_leaves}
use Rattle.paths.proofs.Narrowing.{write, keep}
use Rattle.paths.proofs.values.ValueSets.narrowed.Goals as goal
use Rattle.paths.proofs.values.ValueSets.narrowed.Goals.{then-contains, else-contains}

pub loop-v-preserved : goal.loop-v-preserved
loop-v-preserved c =
    let e = expr_at c.args.file.now c.args.e in
    let v = c.loop-v.v in
    elim c.if-contains.branch [
      | then-contains w ↦ rw w.fewer-is (write c.args.self.now (leaves e c.args.way) c.loop-v.fewer v w.left.result c.loop-v-test.true w.left.ensures c.loop-v.invariant)
      | else-contains w ↦ rw w.fewer-is (keep c.args.self.now (leaves e c.args.way) c.loop-v.fewer v
          (λ x. unread_leaves v x e c.args.way (or_parts (mentions e v) (has c.empty.result v) (sym (c.gathered-read.ensures v c.loop-v-test.true) ∙ sym c.contains.ensures ∙ w.if-contains.false)).0) c.loop-v.invariant)
    ]
