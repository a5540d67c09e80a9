-- Every expression that a file describes has a width of 1 to 32, unless it is a constant.
use Rattle.std.proofs.Common.{◌≡◌, ℕ, ◌≤◌, Bool, true, false, cond, ◌||◌, eqb, ltb, Option, Some, None, get_or, refl, arith}
use Rattle.std.proofs.lemmas.Bool.{or_parts, eqb-false, ltb-false}
use Rattle.refusal.specs.declared.Section.TheVariants.{Expressions}
use Rattle.language.specs.Syntax.{Expr, constant, width}
use Rattle.records.specs.declared.codes.Operation.{Operation}
use Rattle.records.specs.declared.codes.Operation.TheVariants as op
use Rattle.records.specs.declared.cells.Expression.{Expression}
use Rattle.records.specs.declared.nodes.Node.{Node}
use Rattle.records.specs.Layouts.{File, limit_of}
use Rattle.records.specs.Cells.{expression_at}
use Rattle.records.specs.Nodes.{nil_node, operand_by, operand_of, node_of, node_at}
use Rattle.records.specs.Trees.{builts, built, grow_expr, expr_at}
use Rattle.machine.specs.Widths.{Wide, Sized}

module _ (at : ℕ → Expr) where
  sized_if : (t : Bool) (m : Node) → Sized (grow_expr m at) → Sized (grow_expr (cond t m nil_node) at)
  sized_if true m s = s
  sized_if false m s = omega arith

  sized_operand : (o : Option Operation) (w a b c n : ℕ) → Wide w → Sized (grow_expr (operand_by o w a b c n) at)
  sized_operand None w a b c n s = omega arith
  sized_operand (Some op.Constant) w a b c n s = search (sized_if, s)
  sized_operand (Some op.Variable) w a b c n s = s
  sized_operand (Some op.Not) w a b c n s = search (sized_if, s)
  sized_operand (Some (op.Pair o)) w a b c n s = search (sized_if, s)
  sized_operand (Some op.ShiftLeft) w a b c n s = search (sized_if, s)
  sized_operand (Some op.ShiftRight) w a b c n s = search (sized_if, s)
  sized_operand (Some op.Part) w a b c n s = search (sized_if, s)
  sized_operand (Some op.Above) w a b c n s = search (sized_if, s)
  sized_operand (Some op.Choose) w a b c n s = search (sized_if, s)

  sized_record : (x : Expression) (n : ℕ) → Sized (grow_expr (node_of x n) at)
  sized_record x n = go (eqb x.width 0 || ltb 32 x.width) refl
    where
      go : (t : Bool) → (eqb x.width 0 || ltb 32 x.width) ≡ t → Sized (grow_expr (cond t nil_node (operand_of x n)) at)
      go true e = omega arith
      go false e =
          let p = or_parts (eqb x.width 0) (ltb 32 x.width) e in
          let ne = eqb-false x.width 0 p.0 in
          let le : x.width ≤ 32 = ltb-false 32 x.width p.1 in
          let ge : 1 ≤ x.width = omega (arith, ne) in
          sized_operand x.operation x.width x.a x.b x.c n (ge, le)

pub sized_expr : (f : File) (n : ℕ) → Sized (expr_at f n)
unfolding built
sized_expr f n =
    let parts : ℕ → Expr = λ k. get_or (builts (node_at f) grow_expr (constant 0 0) n) k (constant 0 0) in
    sized_if parts (ltb n (limit_of Expressions)) (node_of (expression_at f n) n) (sized_record parts (expression_at f n) n)

pub width_most : (e : Expr) → Sized e → width e ≤ 32
width_most (constant w n) s = s
width_most e s = s.1
