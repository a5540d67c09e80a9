-- What is known of each command and each expression that breaks no rule, by what it does.
use Rattle.std.proofs.Common.{◌≡◌, ℕ, ◌+◌, ◌^◌, ◌<◌, ◌≤◌, Bool, true, false, cond, ◌&&◌, ◌||◌, eqb, ltb, sym, refl, subst, true≢false, arith, Option, Some, None}
use Rattle.std.proofs.lemmas.Bool.{or_parts, ltb-true, ltb-false, lt-ltb, eqb-true, not-false}
use Rattle.refusal.specs.declared.Section.{Section}
use Rattle.refusal.specs.declared.Section.TheVariants.{Variables, Commands, Expressions}
use Rattle.language.specs.Form.{of_op}
use Rattle.records.specs.declared.codes.Step.{Step}
use Rattle.records.specs.declared.codes.Step.TheVariants as step
use Rattle.records.specs.declared.codes.Operation.{Operation}
use Rattle.records.specs.declared.codes.Operation.TheVariants as op
use Rattle.records.specs.declared.cells.Expression.{Expression}
use Rattle.records.specs.declared.nodes.Action.{Action}
use Rattle.records.specs.declared.nodes.Action.TheVariants.{Idle, Both, Choose, Assign}
use Rattle.records.specs.declared.nodes.Node.{Node}
use Rattle.records.specs.declared.nodes.Node.TheVariants as node
use Rattle.records.specs.Layouts.{File, limit_of, count_in}
use Rattle.records.specs.Cells.{command_at, expression_at}
use Rattle.records.specs.Nodes.{nil_node, action_by, operand_by, operand_of, action_at, node_at}
use Rattle.vectors.specs.Operations.{op_of}
use Rattle.records.proofs.Growing.{action_low, node_low}
use Rattle.rules.specs.Ranges.{out, used, bad_width, step_out, command_out, operand_out, expression_out}
use Rattle.rules.specs.Parts.{differ, high_parts, command_high, high_operands, expr_high}
use Rattle.rules.specs.Widths.{wide, var_wide, step_misfit, command_misfit, operand_misfit, expr_misfit}

pub not_out : (a n : ℕ) → out a n ≡ false → a < n
not_out a n e = ltb-true a n (not-false (ltb a n) e)

pub not_differ : (a b : ℕ) → differ a b ≡ false → a ≡ b
not_differ a b e = eqb-true a b (not-false (eqb a b) e)

-- the second of two that do not both hold
pub second : (x y : Bool) → (x && y) ≡ false → x ≡ true → y ≡ false
second true y e h = e
second false y e h = absurd (true≢false (sym h))

pub in_limit : (f : File) (s : Section) (n : ℕ) → n < count_in f s → n < limit_of s
in_limit f s n h = omega arith

module _ {A : Type 0} (P : A → Type 0) (x y : A) where
  pub low1 : (a e : ℕ) → a < e → P x → P (cond (ltb a e) x y)
  low1 a e h p = subst (λ t. P (cond t x y)) (sym (lt-ltb a e h)) p

  pub low2 : (a e b w : ℕ) → a < e → b < w → P x → P (cond (ltb a e && ltb b w) x y)
  low2 a e b w h k p = subst (λ t. P (cond (t && ltb b w) x y)) (sym (lt-ltb a e h)) (low1 b w k p)

  pub low3 : (a b c e : ℕ) → a < e → b < e → c < e → P x → P (cond (ltb a e && (ltb b e && ltb c e)) x y)
  low3 a b c e h k m p = subst (λ t. P (cond (t && (ltb b e && ltb c e)) x y)) (sym (lt-ltb a e h)) (low2 b e c e k m p)

-- two parts, and three, that are lower
pub both_low : (a b e : ℕ) → (out a e || out b e) ≡ false → (a < e) × (b < e)
both_low a b e h = let s = or_parts (out a e) (out b e) h in (not_out a e s.0, not_out b e s.1)

pub all_low : (a b c e : ℕ) → (out a e || (out b e || out c e)) ≡ false → (a < e) × (b < e) × (c < e)
all_low a b c e h = let s = or_parts (out a e) (out b e || out c e) h in let t = both_low b c e s.1 in (not_out a e s.0, t.0, t.1)

module _ (f : File) where
  abbrev vs : ℕ
  vs = count_in f Variables

  abbrev cs : ℕ
  cs = count_in f Commands

  abbrev es : ℕ
  es = count_in f Expressions

  abbrev pub FitN : ℕ → Node → Type 0
  FitN e (node.Constant w a) = (w ≡ wide f e) × (a < 2 ^ w)
  FitN e (node.Variable w v k) = (w ≡ wide f e) × (k ≡ e) × (v < vs) × (w ≡ var_wide f v)
  FitN e (node.Not w a) = (w ≡ wide f e) × (a < e) × (wide f a ≡ w)
  FitN e (node.Pair w o a b) = (w ≡ wide f e) × (a < e) × (b < e) × (wide f a ≡ wide f b) × (w ≡ of_op (op_of o) (wide f a))
  FitN e (node.ShiftLeft w a b) = (w ≡ wide f e) × (a < e) × (wide f a ≡ w) × (b < w)
  FitN e (node.ShiftRight w a b) = (w ≡ wide f e) × (a < e) × (wide f a ≡ w) × (b < w)
  FitN e (node.Part w a b) = (w ≡ wide f e) × (a < e) × (b + w ≤ wide f a)
  FitN e (node.Above w a b) = (w ≡ wide f e) × (a < e) × (b < e) × (w ≡ wide f a + wide f b)
  FitN e (node.Choose w a b c) = (w ≡ wide f e) × (a < e) × (b < e) × (c < e) × (wide f a ≡ 1) × (wide f b ≡ w) × (wide f c ≡ w)

  module _ (w a b c e : ℕ) (we : w ≡ wide f e) where
    abbrev Fits : Option Operation → Type 0
    Fits o = operand_out o w a b c vs es ≡ false → high_operands o a b c e ≡ false → operand_misfit f o w a b c ≡ false → FitN e (operand_by o w a b c e)

    shift_low : (out a es || (out b w || used c)) ≡ false → b < w
    shift_low o = not_out b w (or_parts (out b w) (used c) (or_parts (out a es) _ o).1).0

    fits : (o : Option Operation) → Fits o
    fits (Some op.Constant) = λ o h m. let lo = not_out a (2 ^ w) (or_parts (out a (2 ^ w)) _ o).0 in low1 (FitN e) _ _ a (2 ^ w) lo (we, lo)
    fits (Some op.Variable) = λ o h m. (we, refl, not_out a vs (or_parts (out a vs) _ o).0, not_differ w (var_wide f a) m)
    fits (Some op.Not) = λ o h m. let lo = not_out a e h in low1 (FitN e) _ _ a e lo (we, lo, not_differ (wide f a) w m)
    fits (Some (op.Pair x)) = λ o h m.
        let s = both_low a b e h in
        let ms = or_parts (differ (wide f a) (wide f b)) (differ w (of_op (op_of x) (wide f a))) m in
        low2 (FitN e) _ _ a e b e s.0 s.1 (we, s.0, s.1, not_differ (wide f a) (wide f b) ms.0, not_differ w (of_op (op_of x) (wide f a)) ms.1)
    fits (Some op.ShiftLeft) = λ o h m. let lo = not_out a e h in low2 (FitN e) _ _ a e b w lo (shift_low o) (we, lo, not_differ (wide f a) w m, shift_low o)
    fits (Some op.ShiftRight) = λ o h m. let lo = not_out a e h in low2 (FitN e) _ _ a e b w lo (shift_low o) (we, lo, not_differ (wide f a) w m, shift_low o)
    fits (Some op.Part) = λ o h m. let lo = not_out a e h in low1 (FitN e) _ _ a e lo (we, lo, ltb-false (wide f a) (b + w) m)
    fits (Some op.Above) = λ o h m. let s = both_low a b e h in low2 (FitN e) _ _ a e b e s.0 s.1 (we, s.0, s.1, not_differ w (wide f a + wide f b) m)
    fits (Some op.Choose) = λ o h m.
        let s = all_low a b c e h in
        let ms = or_parts (differ (wide f a) 1) (differ (wide f b) w || differ (wide f c) w) m in
        let mt = or_parts (differ (wide f b) w) (differ (wide f c) w) ms.1 in
        low3 (FitN e) _ _ a b c e s.0 s.1 s.2 (we, s.0, s.1, s.2, not_differ (wide f a) 1 ms.0, not_differ (wide f b) w mt.0, not_differ (wide f c) w mt.1)
    fits None = λ o h m. absurd (true≢false o)

  -- what is left of the range of an expression past its spare bytes: its width, and its operands
  pub past_spare : (x : Expression) → expression_out x vs es ≡ false → (bad_width x.width ≡ false) × (operand_out x.operation x.width x.a x.b x.c vs es ≡ false)
  past_spare x o = or_parts (bad_width x.width) _ (or_parts (used x.fourth) _ (or_parts (used x.third) _ o).1).1

  -- from its operands to the expression
  pub narrow : (P : Node → Type 0) (e : ℕ) → e < es → expression_out (expression_at f e) vs es ≡ false → P (operand_of (expression_at f e) e) → P (node_at f e)
  narrow P e h o p =
      subst P (node_low f e (in_limit f Expressions e h))
      (subst (λ t. P (cond t nil_node (operand_of (expression_at f e) e))) (sym (past_spare (expression_at f e) o).0) p)

  pub node_fits : (e : ℕ) → e < es → expression_out (expression_at f e) vs es ≡ false → expr_high (expression_at f e) e ≡ false → expr_misfit f (expression_at f e) ≡ false → FitN e (node_at f e)
  node_fits e low o h m =
      let x = expression_at f e in
      narrow (FitN e) e low o (fits x.width x.a x.b x.c e refl x.operation (past_spare x o).1 h m)

  -- commands

  abbrev pub FitC : ℕ → Action → Type 0
  FitC n Idle = Unit {0}
  FitC n (Both a b) = (a < n) × (b < n)
  FitC n (Choose e a b) = (e < es) × (wide f e ≡ 1) × (a < n) × (b < n)
  FitC n (Assign v e k) = (k ≡ n) × (v < vs) × (e < es) × (wide f e ≡ var_wide f v)

  module _ (a b c n : ℕ) where
    cfits : (s : Option Step) → step_out s a b c vs cs es ≡ false → high_parts s a b c n ≡ false → step_misfit f s a b ≡ false → FitC n (action_by s a b c n)
    cfits (Some step.Idle) = λ o h m. tt
    cfits (Some step.Both) = λ o h m. let s = both_low a b n h in low2 (FitC n) _ _ a n b n s.0 s.1 s
    cfits (Some step.Choose) = λ o h m.
        let s = both_low b c n h in
        low2 (FitC n) _ _ b n c n s.0 s.1 (not_out a es (or_parts (out a es) _ o).0, not_differ (wide f a) 1 m, s.0, s.1)
    cfits (Some step.Assign) = λ o h m.
        let os = or_parts (out a vs) (out b es || used c) o in
        let va = not_out a vs os.0 in
        low1 (FitC n) _ _ a (limit_of Variables) (in_limit f Variables a va) (refl, va, not_out b es (or_parts (out b es) (used c) os.1).0, not_differ (wide f b) (var_wide f a) m)
    cfits None = λ o h m. tt

  pub action_fits : (n : ℕ) → n < cs → command_out (command_at f n) vs cs es ≡ false → command_high (command_at f n) n ≡ false → command_misfit f (command_at f n) ≡ false → FitC n (action_at f n)
  action_fits n low o h m =
      let x = command_at f n in
      subst (FitC n) (action_low f n (in_limit f Commands n low)) (cfits x.a x.b x.c n x.step o h m)
