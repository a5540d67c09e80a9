-- From the widths of trees back to the widths of records, where records are in range and their parts lower.
use Rattle.std.proofs.Common.{◌≡◌, ℕ, zero, suc, ◌+◌, ◌^◌, ◌<◌, ◌≤◌, Bool, true, false, ◌||◌, eqb, ◌⊎◌, List, sym, refl, ap, ◌∙◌, subst, inl, inr, ⊎_elim, true≢false, arith, Option, Some, None}
use Rattle.std.proofs.lemmas.Bool.{cases_lt, or_parts, or_from, le-ltb, eqb-true, eq-eqb, not_from_true}
use Rattle.refusal.specs.declared.Section.TheVariants.{Variables, Commands, Expressions}
use Rattle.language.specs.Syntax.{Cmd, Design, var, width}
use Rattle.language.specs.Form.{Way, Each, Sized, of_op}
use Rattle.records.specs.declared.codes.Step.{Step}
use Rattle.records.specs.declared.codes.Step.TheVariants as step
use Rattle.records.specs.declared.codes.Operation.{Operation}
use Rattle.records.specs.declared.codes.Operation.TheVariants as op
use Rattle.records.specs.declared.nodes.Action.{Action}
use Rattle.records.specs.declared.nodes.Node.{Node}
use Rattle.records.specs.Layouts.{File, limit_of, count_in}
use Rattle.records.specs.Nodes.{action_by, operand_by, LowerParts, LowerOperands}
use Rattle.vectors.specs.Operations.{op_of}
use Rattle.records.specs.Trees.{grow_expr, grow_cmd, expr_at, cmd_at, design_of}
use Rattle.records.proofs.Designs.{var_at}
use Rattle.survey.specs.Sums.{total, one}
use Rattle.survey.specs.Uses.{use_of, part_uses, value_uses, operand_uses}
use Rattle.rules.specs.Ranges.{out, used, step_out, operand_out}
use Rattle.rules.specs.Parts.{differ, high_parts, high_operands}
use Rattle.rules.specs.Widths.{wide, var_wide, step_misfit, operand_misfit}
use Rattle.design.proofs.Fits.{in_limit, not_out, low1, low2, low3, both_low, all_low}

pub same : (a b : ℕ) → a ≡ b → differ a b ≡ false
same a b e = not_from_true (eqb a b) (eq-eqb a b e)

pub total_some : (g : ℕ → ℕ) (n : ℕ) → 0 < total g n → (k : ℕ) × (k < n) × (0 < g k)
unfolding total
total_some g zero h = absurd (omega arith)
total_some g (suc n) h =
    ⊎_elim
    (λ (p : 0 < g n). (n, omega arith, p))
    (λ (z : g n ≤ 0). let r = total_some g n (omega (arith, h, z)) in (r.0, omega (arith, r.1), r.2))
    (cases_lt 0 (g n))

pub one_is : (a n : ℕ) → 0 < use_of a n → a ≡ n
one_is a n = by (eqb a n) refl
  where
    by : (b : Bool) → eqb a n ≡ b → 0 < one b → a ≡ n
    by true e h = eqb-true a n e
    by false e h = absurd (omega arith)

pub either_of : (x y : ℕ) → 0 < x + y → (0 < x) ⊎ (0 < y)
either_of x y h = ⊎_elim (λ (p : 0 < x). inl p) (λ (z : x ≤ 0). inr (omega arith)) (cases_lt 0 x)

-- what holds of the parts holds of what is used
module _ (P : ℕ → Type 0) where
  pub use1 : (a n : ℕ) → 0 < use_of a n → P a → P n
  use1 a n h p = subst P (one_is a n h) p

  pub use2 : (a b n : ℕ) → 0 < use_of a n + use_of b n → P a → P b → P n
  use2 a b n h p q = ⊎_elim (λ x. use1 a n x p) (λ x. use1 b n x q) (either_of (use_of a n) (use_of b n) h)

  pub use3 : (a b c n : ℕ) → 0 < use_of a n + use_of b n + use_of c n → P a → P b → P c → P n
  use3 a b c n h p q r = ⊎_elim (λ x. use2 a b n x p q) (λ x. use1 c n x r) (either_of (use_of a n + use_of b n) (use_of c n) h)

-- what an expression uses is lower
pub lower_uses : (o : Option Operation) (a b c n e : ℕ) → 0 < operand_uses o a b c n → high_operands o a b c e ≡ false → n < e
lower_uses (Some op.Constant) a b c n e u h = absurd (omega arith)
lower_uses (Some op.Variable) a b c n e u h = absurd (omega arith)
lower_uses (Some op.Not) a b c n e u h = use1 (λ k. k < e) a n u (not_out a e h)
lower_uses (Some (op.Pair o)) a b c n e u h = let s = both_low a b e h in use2 (λ k. k < e) a b n u s.0 s.1
lower_uses (Some op.ShiftLeft) a b c n e u h = use1 (λ k. k < e) a n u (not_out a e h)
lower_uses (Some op.ShiftRight) a b c n e u h = use1 (λ k. k < e) a n u (not_out a e h)
lower_uses (Some op.Part) a b c n e u h = use1 (λ k. k < e) a n u (not_out a e h)
lower_uses (Some op.Above) a b c n e u h = let s = both_low a b e h in use2 (λ k. k < e) a b n u s.0 s.1
lower_uses (Some op.Choose) a b c n e u h = let s = all_low a b c e h in use3 (λ k. k < e) a b c n u s.0 s.1 s.2
lower_uses None a b c n e u h = absurd (omega arith)

module _ (f : File) where
  abbrev d : Design
  d = design_of f

  abbrev vs : ℕ
  vs = count_in f Variables

  abbrev cs : ℕ
  cs = count_in f Commands

  abbrev es : ℕ
  es = count_in f Expressions

  abbrev Well : ℕ → Type 0
  Well n = Sized d (expr_at f n)

  module _ (w a b c e : ℕ) where
    -- what each node is
    abbrev pub Basic : Node → Type 0
    Basic r = LowerOperands r e × (width (grow_expr r (expr_at f)) ≡ w)

    shift_in : (out a es || (out b w || used c)) ≡ false → b < w
    shift_in o = not_out b w (or_parts (out b w) (used c) (or_parts (out a es) _ o).1).0

    constant_in : (out a (2 ^ w) || (used b || used c)) ≡ false → a < 2 ^ w
    constant_in o = not_out a (2 ^ w) (or_parts (out a (2 ^ w)) _ o).0

    pub basics : (o : Option Operation) → operand_out o w a b c vs es ≡ false → high_operands o a b c e ≡ false → Basic (operand_by o w a b c e)
    basics (Some op.Constant) = λ o h. low1 Basic _ _ a (2 ^ w) (constant_in o) (tt, refl)
    basics (Some op.Variable) = λ o h. (tt, refl)
    basics (Some op.Not) = λ o h. let la = not_out a e h in low1 Basic _ _ a e la (la, refl)
    basics (Some (op.Pair x)) = λ o h. let s = both_low a b e h in low2 Basic _ _ a e b e s.0 s.1 (s, refl)
    basics (Some op.ShiftLeft) = λ o h. let la = not_out a e h in low2 Basic _ _ a e b w la (shift_in o) (la, refl)
    basics (Some op.ShiftRight) = λ o h. let la = not_out a e h in low2 Basic _ _ a e b w la (shift_in o) (la, refl)
    basics (Some op.Part) = λ o h. let la = not_out a e h in low1 Basic _ _ a e la (la, refl)
    basics (Some op.Above) = λ o h. let s = both_low a b e h in low2 Basic _ _ a e b e s.0 s.1 (s, refl)
    basics (Some op.Choose) = λ o h. let s = all_low a b c e h in low3 Basic _ _ a b c e s.0 s.1 s.2 (s, refl)
    basics None = λ o h. absurd (true≢false o)

    -- back from the tree
    abbrev pub Back : Option Operation → Node → Type 0
    Back o r = Sized d (grow_expr r (expr_at f)) → (operand_misfit f o w a b c ≡ false) × ((n : ℕ) → 0 < operand_uses o a b c n → Well n)

    module _ (wd : (k : ℕ) → k < e → width (expr_at f k) ≡ wide f k) where
      pub backs : (o : Option Operation) → operand_out o w a b c vs es ≡ false → high_operands o a b c e ≡ false → Back o (operand_by o w a b c e)
      backs (Some op.Constant) = λ o h. low1 (Back (Some op.Constant)) _ _ a (2 ^ w) (constant_in o) (λ s. (refl, λ n p. absurd (omega arith)))
      backs (Some op.Variable) = λ o h s. (same w (var_wide f a) (s ∙ ap (λ x. x.width) (var_at f a (not_out a vs (or_parts (out a vs) _ o).0))), λ n p. absurd (omega arith))
      backs (Some op.Not) = λ o h. let la = not_out a e h in low1 (Back (Some op.Not)) _ _ a e la (λ s. (same (wide f a) w (sym (wd a la) ∙ s.1), λ n p. use1 Well a n p s.0))
      backs (Some (op.Pair x)) = λ o h.
          let lo = both_low a b e h in
          low2 (Back (Some (op.Pair x))) _ _ a e b e lo.0 lo.1
          (λ s. (or_from (differ (wide f a) (wide f b)) (differ w (of_op (op_of x) (wide f a))) (same (wide f a) (wide f b) (sym (wd a lo.0) ∙ s.2 ∙ wd b lo.1)) (same w (of_op (op_of x) (wide f a)) (s.3 ∙ ap (of_op (op_of x)) (wd a lo.0))), λ n p. use2 Well a b n p s.0 s.1))
      backs (Some op.ShiftLeft) = λ o h. let la = not_out a e h in low2 (Back (Some op.ShiftLeft)) _ _ a e b w la (shift_in o) (λ s. (same (wide f a) w (sym (wd a la) ∙ s.1), λ n p. use1 Well a n p s.0))
      backs (Some op.ShiftRight) = λ o h. let la = not_out a e h in low2 (Back (Some op.ShiftRight)) _ _ a e b w la (shift_in o) (λ s. (same (wide f a) w (sym (wd a la) ∙ s.1), λ n p. use1 Well a n p s.0))
      backs (Some op.Part) = λ o h. let la = not_out a e h in low1 (Back (Some op.Part)) _ _ a e la (λ s. (le-ltb (wide f a) (b + w) (subst (λ k. b + w ≤ k) (wd a la) s.1), λ n p. use1 Well a n p s.0))
      backs (Some op.Above) = λ o h.
          let lo = both_low a b e h in
          low2 (Back (Some op.Above)) _ _ a e b e lo.0 lo.1 (λ s. (same w (wide f a + wide f b) (s.2 ∙ (λ i. wd a lo.0 i + wd b lo.1 i)), λ n p. use2 Well a b n p s.0 s.1))
      backs (Some op.Choose) = λ o h.
          let lo = all_low a b c e h in
          low3 (Back (Some op.Choose)) _ _ a b c e lo.0 lo.1 lo.2
          (λ s. (or_from (differ (wide f a) 1) (differ (wide f b) w || differ (wide f c) w) (same (wide f a) 1 (sym (wd a lo.0) ∙ s.1)) (or_from (differ (wide f b) w) (differ (wide f c) w) (same (wide f b) w (sym (wd b lo.1) ∙ s.3)) (same (wide f c) w (sym (wd c lo.2) ∙ s.5))), λ n p. use3 Well a b c n p s.0 s.2 s.4))
      backs None = λ o h s. absurd (true≢false o)

  -- ---- commands

  abbrev pub Wide : List Way → Cmd → Type 0
  Wide path c = Each (λ e. Sized d e × (width e ≡ 1)) (λ p u e. Sized d e × (width e ≡ (var d u).width)) path c

  abbrev Widely : ℕ → Type 0
  Widely n = (p : List Way) × Wide p (cmd_at f n)

  module _ (a b c n : ℕ) (wd : (k : ℕ) → k < es → width (expr_at f k) ≡ wide f k) where
    pub record CBack (s : Option Step) (r : Action) : Type 0 where
      pub lower : LowerParts r n
      pub fits : (path : List Way) → Wide path (grow_cmd (expr_at f) r (cmd_at f)) → step_misfit f s a b ≡ false
      pub part_low : (m : ℕ) → 0 < part_uses s a b c m → m < n
      pub part : (m : ℕ) → 0 < part_uses s a b c m → (path : List Way) → Wide path (grow_cmd (expr_at f) r (cmd_at f)) → Widely m
      pub value : (m : ℕ) → 0 < value_uses s a b c m → (path : List Way) → Wide path (grow_cmd (expr_at f) r (cmd_at f)) → Well m

    pub cbacks : (s : Option Step) → step_out s a b c vs cs es ≡ false → high_parts s a b c n ≡ false → CBack s (action_by s a b c n)
    cbacks (Some step.Idle) = λ o h. record { lower = tt; fits = λ path x. refl; part_low = λ m p. absurd (omega arith); part = λ m p. absurd (omega arith); value = λ m p. absurd (omega arith) }
    cbacks (Some step.Both) = λ o h.
        let s = both_low a b n h in
        low2 (CBack (Some step.Both)) _ _ a n b n s.0 s.1 (record {
          lower = s;
          fits = λ path x. refl;
          part_low = λ m p. use2 (λ k. k < n) a b m p s.0 s.1;
          part = λ m p path x. use2 Widely a b m p (path, x.0) (path, x.1);
          value = λ m p. absurd (omega arith);
        })
    cbacks (Some step.Choose) = λ o h.
        let s = both_low b c n h in
        let ea = not_out a es (or_parts (out a es) _ o).0 in
        low2 (CBack (Some step.Choose)) _ _ b n c n s.0 s.1 (record {
          lower = s;
          fits = λ path x. same (wide f a) 1 (sym (wd a ea) ∙ x.0.1);
          part_low = λ m p. use2 (λ k. k < n) b c m p s.0 s.1;
          part = λ m p path x. use2 Widely b c m p (_, x.1) (_, x.2);
          value = λ m p path x. use1 Well a m p x.0.0;
        })
    cbacks (Some step.Assign) = λ o h.
        let os = or_parts (out a vs) (out b es || used c) o in
        let va = not_out a vs os.0 in
        let eb = not_out b es (or_parts (out b es) (used c) os.1).0 in
        low1 (CBack (Some step.Assign)) _ _ a (limit_of Variables) (in_limit f Variables a va) (record {
          lower = tt;
          fits = λ path x. same (wide f b) (var_wide f a) (sym (wd b eb) ∙ x.1 ∙ ap (λ y. y.width) (var_at f a va));
          part_low = λ m p. absurd (omega arith);
          part = λ m p. absurd (omega arith);
          value = λ m p path x. use1 Well b m p x.0;
        })
    cbacks None = λ o h. absurd (true≢false o)
