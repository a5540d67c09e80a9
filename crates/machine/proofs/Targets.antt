-- No command that a file describes assigns a number past the last variable.
use Rattle.std.proofs.Common.{◌≡◌, ℕ, zero, suc, ◌+◌, ◌<◌, ◌≤◌, Bool, true, false, cond, not, ◌&&◌, ltb, ◌∷◌, Option, Some, None, sym, refl, subst, arith}
use Rattle.std.proofs.lemmas.Bool.{or_from, and_parts, ltb-true, ne_eqb}
use Rattle.refusal.specs.declared.Section.TheVariants.{Variables, Blocks, Commands}
use Rattle.language.specs.Syntax.{Expr, Cmd, together}
use Rattle.language.specs.Form.{assigns}
use Rattle.records.specs.declared.codes.Step.{Step}
use Rattle.records.specs.declared.codes.Step.TheVariants as step
use Rattle.records.specs.declared.nodes.Action.{Action}
use Rattle.records.specs.declared.nodes.Action.TheVariants.{Idle, Both, Choose, Assign}
use Rattle.records.specs.Layouts.{File, limit_of, count_in}
use Rattle.records.specs.Cells.{block_at, command_at}
use Rattle.records.specs.Nodes.{action_by, action_of, action_at, LowerParts}
use Rattle.records.specs.Trees.{grow_cmd, expr_at, cmd_at, body_at, bodies, settled_at, design_of}
use Rattle.records.proofs.Growing.{cmd_is}
use Rattle.records.proofs.Designs.{clocked_is}

-- a command assigns no number past the last variable that a design can have
abbrev pub Low : Cmd → Type 0
Low c = (v : ℕ) → 128 ≤ v → assigns c v ≡ false

-- what an action names: parts that are lower, and a variable
record Named (x : Action) (n : ℕ) : Type 0 where
  parts : LowerParts x n
  target : (at : ℕ → Cmd) (es : ℕ → Expr) → ((k : ℕ) → k < n → Low (at k)) → Low (grow_cmd es x at)

named_idle : (n : ℕ) → Named Idle n
named_idle n = record { parts = tt; target = λ at es h v ge. refl }

named_if : (t : Bool) (x : Action) (n : ℕ) → (t ≡ true → Named x n) → Named (cond t x Idle) n
named_if true x n h = h refl
named_if false x n h = named_idle n

named_step : (s : Option Step) (a b c n : ℕ) → Named (action_by s a b c n) n
named_step (Some step.Idle) a b c n = named_idle n
named_step (Some step.Both) a b c n = named_if (ltb a n && ltb b n) (Both a b) n (λ e.
    let p = and_parts (ltb a n) (ltb b n) e in
    let one = ltb-true a n p.0 in
    let two = ltb-true b n p.1 in
    record { parts = (one, two); target = λ at es h v ge. or_from (assigns (at a) v) (assigns (at b) v) (h a one v ge) (h b two v ge) })
named_step (Some step.Choose) a b c n = named_if (ltb b n && ltb c n) (Choose a b c) n (λ e.
    let p = and_parts (ltb b n) (ltb c n) e in
    let one = ltb-true b n p.0 in
    let two = ltb-true c n p.1 in
    record { parts = (one, two); target = λ at es h v ge. or_from (assigns (at b) v) (assigns (at c) v) (h b one v ge) (h c two v ge) })
named_step (Some step.Assign) a b c n = named_if (ltb a (limit_of Variables)) (Assign a b n) n (λ e.
    let lt : a < 128 = ltb-true a 128 e in
    record { parts = tt; target = λ at es h v ge. ne_eqb a v (λ (same : a ≡ v). omega arith) })
named_step None a b c n = named_idle n

module _ (f : File) where
  named : (n : ℕ) → Named (action_at f n) n
  named n = named_if (ltb n (limit_of Commands)) (action_of (command_at f n) n) n (λ e. let x = command_at f n in named_step x.step x.a x.b x.c n)

  low_below : (n k : ℕ) → k < n → Low (cmd_at f k)
  low_below zero k lt = absurd (omega arith)
  low_below (suc n) k lt =
      subst Low (sym (cmd_is f k (action_at f k) refl (named k).parts))
      ((named k).target (cmd_at f) (expr_at f) (λ j below. low_below n j (omega arith)))

  pub low_body : (b : ℕ) → Low (body_at f b)
  low_body b = low_below (suc (block_at f b).top) (block_at f b).top (omega arith)

  low_bodies : (wanted : ℕ → Bool) (b k : ℕ) → Low (together (bodies f wanted b k))
  low_bodies wanted b zero v ge = refl
  low_bodies wanted b (suc k) v ge = go (wanted b) (low_bodies wanted (b + 1) k v ge)
    where
      go : (t : Bool) → assigns (together (bodies f wanted (b + 1) k)) v ≡ false → assigns (together (cond t (body_at f b ∷ bodies f wanted (b + 1) k) (bodies f wanted (b + 1) k))) v ≡ false
      go true h = or_from (assigns (body_at f b) v) (assigns (together (bodies f wanted (b + 1) k)) v) (low_body b v ge) h
      go false h = h

  pub low_clocked : Low (together (design_of f).clocked)
  low_clocked = subst (λ cs. Low (together cs)) (sym (clocked_is f)) (low_bodies (λ b. not (settled_at f b)) 0 (count_in f Blocks))
