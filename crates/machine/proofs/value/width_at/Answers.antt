use Rattle.std.proofs.Common.{rules, ap, ◌∙◌, sym}
use Rattle.language.specs.Syntax.{width}
use Rattle.records.specs.Trees.{expr_at}
use Rattle.machine.proofs.Widths.{sized_expr, width_most}
use Rattle.machine.proofs.value.width_at.Goals as goal

pub returns : goal.returns
returns c =
    let most = width_most (expr_at c.args.file.now c.args.e) (sized_expr c.args.file.now c.args.e) in
    let is = ap width c.node.ensures.tree ∙ sym (c.bits_of.ensures (expr_at c.args.file.now)) in
    search (rules, most, is)
