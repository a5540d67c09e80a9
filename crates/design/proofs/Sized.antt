-- Expressions and commands of a design whose records break no rule.
use Rattle.std.proofs.Common.{◌≡◌, ℕ, zero, suc, ◌+◌, ◌<◌, ◌≤◌, Bool, true, false, ◌||◌, eqb, List, sym, refl, ap, ◌∙◌, subst, ⊎_elim, true≢false, arith}
use Rattle.std.proofs.lemmas.Bool.{or_parts, or_cases, or_left, or_right, eq-eqb, eqb-true}
use Rattle.refusal.specs.declared.Section.TheVariants.{Variables, Commands, Expressions}
use Rattle.lattice.specs.Meaning.{All}
use Rattle.lattice.proofs.Lists.{all_append}
use Rattle.language.specs.Syntax.{Expr, Cmd, Design, var, width, vars}
use Rattle.language.specs.Form.{Way, Each, Sized, Reads, of_op, assigns}
use Rattle.records.specs.declared.nodes.Action.{Action}
use Rattle.records.specs.declared.nodes.Action.TheVariants.{Idle, Both, Choose, Assign}
use Rattle.records.specs.declared.nodes.Node.{Node}
use Rattle.records.specs.declared.nodes.Node.TheVariants as node
use Rattle.records.specs.Layouts.{File, count_in}
use Rattle.records.specs.Cells.{expression_at, command_at}
use Rattle.records.specs.Nodes.{node_at, action_at, LowerOperands, LowerParts}
use Rattle.vectors.specs.Operations.{op_of}
use Rattle.records.specs.Trees.{grow_expr, grow_cmd, expr_at, cmd_at, design_of}
use Rattle.records.proofs.Growing.{expr_is, cmd_is}
use Rattle.records.proofs.Designs.{var_at}
use Rattle.survey.specs.Uses.{command_used, expr_used}
use Rattle.survey.specs.Walks.{reads, reads_in, writes}
use Rattle.rules.specs.declared.Rule.TheVariants.{Range, Use, Width}
use Rattle.rules.specs.Parts.{differ, command_high, expr_high}
use Rattle.rules.specs.Widths.{wide}
use Rattle.design.specs.Right.{Quiet}
use Rattle.design.proofs.Fits.{FitN, FitC, node_fits, action_fits, second}

module _ (f : File) (q : Quiet f) where
  abbrev d : Design
  d = design_of f

  fit_node : (e : ℕ) → e < count_in f Expressions → FitN f e (node_at f e)
  fit_node e h =
      node_fits f e h (q Range Expressions e h)
      (or_parts (differ (expr_used f e) 1) (expr_high (expression_at f e) e) (q Use Expressions e h)).1
      (q Width Expressions e h)

  fit_action : (n : ℕ) → n < count_in f Commands → FitC f n (action_at f n)
  fit_action n h =
      action_fits f n h (q Range Commands n h)
      (or_parts (differ (command_used f n) 1) (command_high (command_at f n) n) (q Use Commands n h)).1
      (q Width Commands n h)

  low_node : (e : ℕ) (r : Node) → FitN f e r → LowerOperands r e
  low_node e (node.Constant w a) p = tt
  low_node e (node.Variable w v k) p = tt
  low_node e (node.Not w a) p = p.1
  low_node e (node.Pair w o a b) p = (p.1, p.2)
  low_node e (node.ShiftLeft w a b) p = p.1
  low_node e (node.ShiftRight w a b) p = p.1
  low_node e (node.Part w a b) p = p.1
  low_node e (node.Above w a b) p = (p.1, p.2)
  low_node e (node.Choose w a b c) p = (p.1, p.2, p.3)

  low_action : (n : ℕ) (r : Action) → FitC f n r → LowerParts r n
  low_action n Idle p = tt
  low_action n (Both a b) p = p
  low_action n (Choose e a b) p = (p.2, p.3)
  low_action n (Assign v e k) p = tt

  expr_here : (e : ℕ) → e < count_in f Expressions → expr_at f e ≡ grow_expr (node_at f e) (expr_at f)
  expr_here e h = expr_is f e (node_at f e) refl (low_node e (node_at f e) (fit_node e h))

  cmd_here : (n : ℕ) → n < count_in f Commands → cmd_at f n ≡ grow_cmd (expr_at f) (action_at f n) (cmd_at f)
  cmd_here n h = cmd_is f n (action_at f n) refl (low_action n (action_at f n) (fit_action n h))

  wide_of : (e : ℕ) (r : Node) (at : ℕ → Expr) → FitN f e r → width (grow_expr r at) ≡ wide f e
  wide_of e (node.Constant w a) at p = p.0
  wide_of e (node.Variable w v k) at p = p.0
  wide_of e (node.Not w a) at p = p.0
  wide_of e (node.Pair w o a b) at p = p.0
  wide_of e (node.ShiftLeft w a b) at p = p.0
  wide_of e (node.ShiftRight w a b) at p = p.0
  wide_of e (node.Part w a b) at p = p.0
  wide_of e (node.Above w a b) at p = p.0
  wide_of e (node.Choose w a b c) at p = p.0

  width_at : (e : ℕ) → e < count_in f Expressions → width (expr_at f e) ≡ wide f e
  width_at e h = ap width (expr_here e h) ∙ wide_of e (node_at f e) (expr_at f) (fit_node e h)

  -- where no record reads a variable of which p holds, and the other variables are known
  module _ (known p : ℕ → Bool) (ok : (v : ℕ) → v < count_in f Variables → p v ≡ false → known v ≡ true) where
    abbrev Good : Expr → Type 0
    Good x = Sized d x × All (λ v. known v ≡ true) (vars x)

    abbrev Still : Expr → Type 0
    Still x = (k : ℕ) → k < count_in f Expressions → reads p x k ≡ false

    module _ (e : ℕ) (h : e < count_in f Expressions) (ih : (a : ℕ) → a < e → Still (expr_at f a) → Good (expr_at f a)) where
      wd : (a : ℕ) → a < e → width (expr_at f a) ≡ wide f a
      wd a lt = width_at a (omega (arith, lt, h))

      good_by : (r : Node) → FitN f e r → Still (grow_expr r (expr_at f)) → Good (grow_expr r (expr_at f))
      good_by (node.Constant w a) g sub = (g.1, tt)
      good_by (node.Variable w v k) g sub = (g.3 ∙ sym (ap (λ x. x.width) (var_at f v g.2)), (ok v g.2 (second (eqb k e) (p v) (sub e h) (eq-eqb k e g.1)), tt))
      good_by (node.Not w a) g sub = let x = ih a g.1 sub in ((x.0, wd a g.1 ∙ g.2), x.1)
      good_by (node.Pair w o a b) g sub =
          let x = ih a g.1 (λ k lt. (or_parts _ _ (sub k lt)).0) in
          let y = ih b g.2 (λ k lt. (or_parts (reads p (expr_at f a) k) _ (sub k lt)).1) in
          ((x.0, y.0, wd a g.1 ∙ g.3 ∙ sym (wd b g.2), g.4 ∙ ap (of_op (op_of o)) (sym (wd a g.1))), all_append _ (vars (expr_at f a)) (vars (expr_at f b)) x.1 y.1)
      good_by (node.ShiftLeft w a b) g sub = let x = ih a g.1 sub in ((x.0, wd a g.1 ∙ g.2, g.3), x.1)
      good_by (node.ShiftRight w a b) g sub = let x = ih a g.1 sub in ((x.0, wd a g.1 ∙ g.2, g.3), x.1)
      good_by (node.Part w a b) g sub = let x = ih a g.1 sub in ((x.0, subst (λ n. b + w ≤ n) (sym (wd a g.1)) g.2), x.1)
      good_by (node.Above w a b) g sub =
          let x = ih a g.1 (λ k lt. (or_parts _ _ (sub k lt)).0) in
          let y = ih b g.2 (λ k lt. (or_parts (reads p (expr_at f a) k) _ (sub k lt)).1) in
          ((x.0, y.0, g.3 ∙ (λ i. sym (wd a g.1) i + sym (wd b g.2) i)), all_append _ (vars (expr_at f a)) (vars (expr_at f b)) x.1 y.1)
      good_by (node.Choose w a b c) g sub =
          let rest : (k : ℕ) → k < count_in f Expressions → (reads p (expr_at f b) k || reads p (expr_at f c) k) ≡ false = λ k lt. (or_parts (reads p (expr_at f a) k) _ (sub k lt)).1 in
          let x = ih a g.1 (λ k lt. (or_parts _ _ (sub k lt)).0) in
          let y = ih b g.2 (λ k lt. (or_parts _ _ (rest k lt)).0) in
          let z = ih c g.3 (λ k lt. (or_parts (reads p (expr_at f b) k) _ (rest k lt)).1) in (
            (x.0, wd a g.1 ∙ g.4, y.0, wd b g.2 ∙ g.5, z.0, wd c g.3 ∙ g.6),
            all_append _ (vars (expr_at f a)) _ x.1 (all_append _ (vars (expr_at f b)) (vars (expr_at f c)) y.1 z.1),
          )

    good : (n e : ℕ) → e < n → e < count_in f Expressions → Still (expr_at f e) → Good (expr_at f e)
    good zero e lt h sub = absurd (omega arith)
    good (suc n) e lt h sub =
        let is = expr_here e h in
        subst Good (sym is) (good_by e h (λ a la s. good n a (omega (arith, la, lt)) (omega (arith, la, h)) s) (node_at f e) (fit_node e h) (subst Still is sub))

    reads_at : (w e : ℕ) → e < count_in f Expressions → wide f e ≡ w → Still (expr_at f e) → Reads d known w (expr_at f e)
    reads_at w e h we sub =
        let g = good (suc e) e (omega arith) h sub in
        record { sized = g.0; wide = width_at e h ∙ we; reads = g.1 }

    -- and no record assigns a variable that is bad: what holds then of each assignment
    module _ (bad : ℕ → Bool) (S : ℕ → Type 0) (A : ℕ → Expr → Type 0)
        (asg : (u e : ℕ) → u < count_in f Variables → Reads d known (var d u).width (expr_at f e) → bad u ≡ false → S u → A u (expr_at f e)) where
      pub record Within (c : Cmd) : Type 0 where
        pub reading : (k : ℕ) → k < count_in f Expressions → reads_in p c k ≡ false
        pub writing : (k : ℕ) → k < count_in f Commands → writes bad c k ≡ false
        pub assigning : (v : ℕ) → assigns c v ≡ true → S v

      abbrev Whole : List Way → Cmd → Type 0
      Whole path c = Each (Reads d known 1) (λ p u e. A u e) path c

      module _ (n : ℕ) (h : n < count_in f Commands) (ih : (a : ℕ) → a < n → Within (cmd_at f a) → (path : List Way) → Whole path (cmd_at f a)) where
        whole_by : (r : Action) → FitC f n r → Within (grow_cmd (expr_at f) r (cmd_at f)) → (path : List Way) → Whole path (grow_cmd (expr_at f) r (cmd_at f))
        whole_by Idle g i path = tt
        whole_by (Both a b) g i path = (
          ih a g.0 (record { reading = λ k lt. (or_parts _ _ (i.reading k lt)).0; writing = λ k lt. (or_parts _ _ (i.writing k lt)).0; assigning = λ v r. i.assigning v (or_left _ _ r) }) path,
          ih b g.1 (record { reading = λ k lt. (or_parts (reads_in p (cmd_at f a) k) _ (i.reading k lt)).1; writing = λ k lt. (or_parts (writes bad (cmd_at f a) k) _ (i.writing k lt)).1; assigning = λ v r. i.assigning v (or_right _ _ r) }) path,
        )
        whole_by (Choose e a b) g i path =
            let rest : (k : ℕ) → k < count_in f Expressions → (reads_in p (cmd_at f a) k || reads_in p (cmd_at f b) k) ≡ false = λ k lt. (or_parts (reads p (expr_at f e) k) _ (i.reading k lt)).1 in (
              reads_at 1 e g.0 g.1 (λ k lt. (or_parts _ _ (i.reading k lt)).0),
              ih a g.2 (record { reading = λ k lt. (or_parts _ _ (rest k lt)).0; writing = λ k lt. (or_parts _ _ (i.writing k lt)).0; assigning = λ v r. i.assigning v (or_left _ _ r) }) _,
              ih b g.3 (record { reading = λ k lt. (or_parts (reads_in p (cmd_at f a) k) _ (rest k lt)).1; writing = λ k lt. (or_parts (writes bad (cmd_at f a) k) _ (i.writing k lt)).1; assigning = λ v r. i.assigning v (or_right _ _ r) }) _,
            )
        whole_by (Assign u e k) g i path =
            asg u e g.1 (reads_at (var d u).width e g.2 (g.3 ∙ sym (ap (λ x. x.width) (var_at f u g.1))) i.reading)
            (second (eqb k n) (bad u) (i.writing n h) (eq-eqb k n g.0)) (i.assigning u (eq-eqb u u refl))

      whole : (m n : ℕ) → n < m → n < count_in f Commands → Within (cmd_at f n) → (path : List Way) → Whole path (cmd_at f n)
      whole zero n lt h i path = absurd (omega arith)
      whole (suc m) n lt h i path =
          let is = cmd_here n h in
          subst (Whole path) (sym is) (whole_by n h (λ a la s. whole m a (omega (arith, la, lt)) (omega (arith, la, h)) s) (action_at f n) (fit_action n h) (subst Within is i) path)

      pub whole_at : (n : ℕ) → n < count_in f Commands → Within (cmd_at f n) → (path : List Way) → Whole path (cmd_at f n)
      whole_at n h i path = whole (suc n) n (omega arith) h i path

  -- what a command assigns is a variable, and not a bad one
  module _ (bad : ℕ → Bool) (v : ℕ) where
    abbrev Fine : Cmd → Type 0
    Fine c = assigns c v ≡ true → ((k : ℕ) → k < count_in f Commands → writes bad c k ≡ false) → (v < count_in f Variables) × (bad v ≡ false)

    two_fine : (a b : ℕ) → Fine (cmd_at f a) → Fine (cmd_at f b) → (assigns (cmd_at f a) v || assigns (cmd_at f b) v) ≡ true → ((k : ℕ) → k < count_in f Commands → (writes bad (cmd_at f a) k || writes bad (cmd_at f b) k) ≡ false) → (v < count_in f Variables) × (bad v ≡ false)
    two_fine a b x y e w =
        ⊎_elim
        (λ t. x t (λ k lt. (or_parts _ _ (w k lt)).0))
        (λ t. y t (λ k lt. (or_parts (writes bad (cmd_at f a) k) _ (w k lt)).1))
        (or_cases (assigns (cmd_at f a) v) (assigns (cmd_at f b) v) e)

    fine_by : (n : ℕ) → n < count_in f Commands → ((a : ℕ) → a < n → Fine (cmd_at f a)) → (r : Action) → FitC f n r → Fine (grow_cmd (expr_at f) r (cmd_at f))
    fine_by n h ih Idle g = λ e w. absurd (true≢false (sym e))
    fine_by n h ih (Both a b) g = two_fine a b (ih a g.0) (ih b g.1)
    fine_by n h ih (Choose x a b) g = two_fine a b (ih a g.2) (ih b g.3)
    fine_by n h ih (Assign u x k) g = λ e w.
        let same : u ≡ v = eqb-true u v e in
        (subst (λ j. j < count_in f Variables) same g.1, subst (λ j. bad j ≡ false) same (second (eqb k n) (bad u) (w n h) (eq-eqb k n g.0)))

    fine : (m n : ℕ) → n < m → n < count_in f Commands → Fine (cmd_at f n)
    fine zero n lt h = absurd (omega arith)
    fine (suc m) n lt h = subst Fine (sym (cmd_here n h)) (fine_by n h (λ a la. fine m a (omega (arith, la, lt)) (omega (arith, la, h))) (action_at f n) (fit_action n h))

    pub fine_at : (n : ℕ) → n < count_in f Commands → Fine (cmd_at f n)
    fine_at n h = fine (suc n) n (omega arith) h
