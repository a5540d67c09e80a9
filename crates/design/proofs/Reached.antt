-- Each command and each expression stands in some block, so the widths of blocks are the widths of all records.
use Rattle.std.proofs.Common.{◌≡◌, ℕ, zero, suc, ◌+◌, ◌<◌, ◌≤◌, false, List, [], refl, ap, ◌∙◌, subst, ⊎_elim, arith}
use Rattle.refusal.specs.declared.Section.{Section}
use Rattle.refusal.specs.declared.Section.TheVariants.{Blocks, Commands, Expressions}
use Rattle.language.specs.Syntax.{width}
use Rattle.language.specs.Form.{Way, Sized}
use Rattle.records.specs.Layouts.{File, count_in}
use Rattle.records.specs.Cells.{block_at, command_at, expression_at}
use Rattle.records.specs.Nodes.{node_at, action_at}
use Rattle.records.specs.Trees.{grow_expr, grow_cmd, expr_at, cmd_at, body_at, design_of}
use Rattle.records.proofs.Growing.{expr_is, cmd_is, action_low}
use Rattle.survey.specs.Sums.{total}
use Rattle.survey.specs.Uses.{top_use, part_use, value_use, operand_use}
use Rattle.rules.specs.Ranges.{out_of_range}
use Rattle.rules.specs.Widths.{wide, command_misfit, expr_misfit}
use Rattle.design.specs.Right.{UsedOnce}
use Rattle.design.proofs.Fits.{in_limit, past_spare, narrow}
use Rattle.design.proofs.Widths.{total_some, one_is, either_of, lower_uses, Wide, Basic, basics, Back, backs, CBack, cbacks}

module _ (f : File) (r : (s : Section) (n : ℕ) → n < count_in f s → out_of_range f s n ≡ false) (u : UsedOnce f) where
  basic_at : (e : ℕ) → e < count_in f Expressions → Basic f (expression_at f e).width (expression_at f e).a (expression_at f e).b (expression_at f e).c e (node_at f e)
  basic_at e h =
      let x = expression_at f e in
      narrow f (Basic f x.width x.a x.b x.c e) e h (r Expressions e h) (basics f x.width x.a x.b x.c e x.operation (past_spare f x (r Expressions e h)).1 (u.operands e h))

  expr_here : (e : ℕ) → e < count_in f Expressions → expr_at f e ≡ grow_expr (node_at f e) (expr_at f)
  expr_here e h = expr_is f e (node_at f e) refl (basic_at e h).0

  width_at : (e : ℕ) → e < count_in f Expressions → width (expr_at f e) ≡ wide f e
  width_at e h = ap width (expr_here e h) ∙ (basic_at e h).1

  back_at : (e : ℕ) → e < count_in f Expressions → Back f (expression_at f e).width (expression_at f e).a (expression_at f e).b (expression_at f e).c e (expression_at f e).operation (node_at f e)
  back_at e h =
      let x = expression_at f e in
      narrow f (Back f x.width x.a x.b x.c e x.operation) e h (r Expressions e h) (backs f x.width x.a x.b x.c e (λ k lt. width_at k (omega (arith, lt, h))) x.operation (past_spare f x (r Expressions e h)).1 (u.operands e h))

  cback_at : (n : ℕ) → n < count_in f Commands → CBack f (command_at f n).a (command_at f n).b (command_at f n).c n width_at (command_at f n).step (action_at f n)
  cback_at n h =
      let x = command_at f n in
      subst (CBack f x.a x.b x.c n width_at x.step) (action_low f n (in_limit f Commands n h)) (cbacks f x.a x.b x.c n width_at x.step (r Commands n h) (u.parts n h))

  cmd_here : (n : ℕ) → n < count_in f Commands → cmd_at f n ≡ grow_cmd (expr_at f) (action_at f n) (cmd_at f)
  cmd_here n h = cmd_is f n (action_at f n) refl (cback_at n h).lower

  module _ (bw : (b : ℕ) → b < count_in f Blocks → Wide f [] (body_at f b)) where
    ruled : (k n : ℕ) → count_in f Commands ≤ n + k → n < count_in f Commands → (p : List Way) × Wide f p (cmd_at f n)
    ruled zero n le h = absurd (omega arith)
    ruled (suc k) n le h =
        let once = u.commands n h in
        ⊎_elim
        (λ t. let s = total_some (top_use f n) (count_in f Blocks) t in ([], subst (λ m. Wide f [] (cmd_at f m)) (one_is (block_at f s.0).top n s.2) (bw s.0 s.1)))
        (λ t.
        let s = total_some (part_use f n) (count_in f Commands) t in
        let low = (cback_at s.0 s.1).part_low n s.2 in
        let up = ruled k s.0 (omega (arith, le, low)) s.1 in
        (cback_at s.0 s.1).part n s.2 up.0 (subst (Wide f up.0) (cmd_here s.0 s.1) up.1))
        (either_of (total (top_use f n) (count_in f Blocks)) (total (part_use f n) (count_in f Commands)) (omega (arith, once)))

    pub command_fits : (n : ℕ) → n < count_in f Commands → command_misfit f (command_at f n) ≡ false
    command_fits n h =
        let w = ruled (count_in f Commands) n (omega arith) h in
        (cback_at n h).fits w.0 (subst (Wide f w.0) (cmd_here n h) w.1)

    sized : (k e : ℕ) → count_in f Expressions ≤ e + k → e < count_in f Expressions → Sized (design_of f) (expr_at f e)
    sized zero e le h = absurd (omega arith)
    sized (suc k) e le h =
        let once = u.expressions e h in
        ⊎_elim
        (λ t.
        let s = total_some (value_use f e) (count_in f Commands) t in
        let w = ruled (count_in f Commands) s.0 (omega arith) s.1 in
        (cback_at s.0 s.1).value e s.2 w.0 (subst (Wide f w.0) (cmd_here s.0 s.1) w.1))
        (λ t.
        let s = total_some (operand_use f e) (count_in f Expressions) t in
        let x = expression_at f s.0 in
        let lt = lower_uses x.operation x.a x.b x.c e s.0 s.2 (u.operands s.0 s.1) in
        let up = sized k s.0 (omega (arith, le, lt)) s.1 in
        (back_at s.0 s.1 (subst (Sized (design_of f)) (expr_here s.0 s.1) up)).1 e s.2)
        (either_of (total (value_use f e) (count_in f Commands)) (total (operand_use f e) (count_in f Expressions)) (omega (arith, once)))

    pub expr_fits : (e : ℕ) → e < count_in f Expressions → expr_misfit f (expression_at f e) ≡ false
    expr_fits e h = (back_at e h (subst (Sized (design_of f)) (expr_here e h) (sized (count_in f Expressions) e (omega arith) h))).0
