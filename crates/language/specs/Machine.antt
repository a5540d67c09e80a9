-- What a design does: expressions, commands, levels, and the calls of a session.
use Rattle.std.specs.Prelude.{ℕ, ◌^◌, Bool, true, false, cond, not, ◌&&◌, ◌||◌, List, [], ◌∷◌, is_some, is_ok, Some, None, Ok, Err, Option, Result, ◌==◌, nat_lt}
use Rattle.std.specs.Option.{unwrap_or, option_or}
use Rattle.refusal.specs.declared.Refusal.{Refusal}
use Rattle.refusal.specs.declared.Refusal.TheVariants.{NotAPort, ValueTooWide, NotAVariable, NotAWatcher, NoValue, Hidden}
use Rattle.lattice.specs.Meaning.{Meaning}
use Rattle.language.specs.Syntax.{Expr, Cmd, Kind, Label, Design, constant, variable, complement, binary, shift_left, shift_right, part, above, choose, idle, seq, choice, assign, port, register, wire, fixed, looked_up, count, var, entry, width, together}
use Rattle.language.specs.Vectors.{complemented, operated, shifted_left, shifted_right, part_from, joined_above, chosen}

-- a value for each variable
abbrev pub Valuation : Type 0
Valuation = ℕ → ℕ

abbrev pub put : Valuation → ℕ → ℕ → Valuation
put ρ u x v = cond (u == v) x (ρ v)

-- ---- expressions

abbrev pub eval : Valuation → Expr → ℕ
eval ρ (constant w n) = n
eval ρ (variable w v k) = ρ v
eval ρ (complement w a) = complemented w (eval ρ a)
eval ρ (binary w o a b) = operated w o (eval ρ a) (eval ρ b)
eval ρ (shift_left w a n) = shifted_left w (eval ρ a) n
eval ρ (shift_right w a n) = shifted_right (eval ρ a) n
eval ρ (part w n a) = part_from w n (eval ρ a)
eval ρ (above w a b) = joined_above w (width b) (eval ρ a) (eval ρ b)
eval ρ (choose w c a b) = chosen (eval ρ c) (eval ρ a) (eval ρ b)

-- ---- commands

-- what a command writes to v, where all that it reads is read from ρ
abbrev pub written : Valuation → ℕ → Cmd → Option ℕ
written ρ v idle = None
written ρ v (seq a b) = option_or (written ρ v b) (written ρ v a)
written ρ v (choice e a b) = cond (eval ρ e == 1) (written ρ v a) (written ρ v b)
written ρ v (assign u e k) = cond (u == v) (Some (eval ρ e)) None

-- σ with what the command writes
abbrev pub after : Valuation → Valuation → Cmd → Valuation
after ρ σ c v = unwrap_or (written ρ v c) (σ v)

-- the wires settle block by block, each block on what those before it left
abbrev pub settle : Valuation → List Cmd → Valuation
settle ρ [] = ρ
settle ρ (c ∷ cs) = settle (after ρ ρ c) cs

-- ---- levels

abbrev pub level_by : Design → Valuation → Label → ℕ
level_by d ρ (fixed l) = l
level_by d ρ (looked_up t s) = entry d t (ρ s)

abbrev pub level : Design → Valuation → ℕ → ℕ
level d ρ v = level_by d ρ (var d v).label

-- ---- what a session holds: a value for each port and register; a wire's number holds 0

abbrev pub is_port : Kind → Bool
is_port port = true
is_port register = false
is_port wire = false

abbrev pub is_wire_kind : Kind → Bool
is_wire_kind port = false
is_wire_kind register = false
is_wire_kind wire = true

-- v names a variable
abbrev pub inside : Design → ℕ → Bool
inside d v = nat_lt v (count d)

-- v is a port or a register
abbrev pub held : Design → ℕ → Bool
held d v = not (is_wire_kind (var d v).kind)

abbrev pub opening_by : Kind → ℕ → ℕ
opening_by port x = 0
opening_by register x = x
opening_by wire x = 0

abbrev pub opening : Design → Valuation
opening d v = opening_by (var d v).kind (var d v).reset

-- the values held, with the wires settled
abbrev pub values : Design → Valuation → Valuation
values d σ = settle σ d.settled

-- ---- clearing

-- is v cleared, where τ takes the place of σ? Its label is looked up by another variable, which changes.
abbrev pub cleared_by : Valuation → Valuation → ℕ → Label → Bool
cleared_by σ τ v (fixed l) = false
cleared_by σ τ v (looked_up t s) = not (s == v) && not (σ s == τ s)

abbrev pub cleared : Design → Valuation → Valuation → ℕ → Bool
cleared d σ τ v = cleared_by σ τ v (var d v).label

abbrev pub clear : Design → Valuation → Valuation → Valuation
clear d σ τ v = cond (cleared d σ τ v) 0 (τ v)

-- ---- the calls of a session

pub data Call : Type 0 where
  drive : (v x : ℕ) → Call
  clock reset : Call
  read : (m : Meaning) (watcher v : ℕ) → Call

-- the answer, or the refusal where the test fails
abbrev pub require : {A : Type 0} → Bool → Refusal → Result A Refusal → Result A Refusal
require b f a = cond b a (Err f)

-- a drive names a port and a value that fits it
abbrev pub driven : Design → ℕ → ℕ → Result (Unit {0}) Refusal
driven d v x = require (is_port (var d v).kind) (NotAPort v) (require (nat_lt x (2 ^ (var d v).width)) (ValueTooWide v) (Ok tt))

abbrev pub accepts : Design → ℕ → ℕ → Bool
accepts d v x = is_ok (driven d v x)

-- what is held after a call; a refused drive changes nothing
abbrev pub step : Design → Valuation → Call → Valuation
step d σ (drive v x) = cond (accepts d v x) (clear d σ (put σ v x)) σ
step d σ clock = clear d σ (after (values d σ) σ (together d.clocked))
step d σ reset = opening d
step d σ (read m w v) = σ

abbrev pub run : Design → Valuation → List Call → Valuation
run d σ [] = σ
run d σ (c ∷ cs) = run d (step d σ c) cs

-- does a settled block give the wire v a value?
abbrev pub gets : Valuation → List Cmd → ℕ → Bool
gets ρ [] v = false
gets ρ (c ∷ cs) v = is_some (written ρ v c) || gets (after ρ ρ c) cs v

-- a read's answer: the value and the level
abbrev pub answer : Meaning → Design → Valuation → ℕ → ℕ → Result (ℕ × ℕ) Refusal
answer m d σ w v =
    let ρ = values d σ in
    require (inside d v) (NotAVariable v)
    (require (nat_lt w m.count) (NotAWatcher v)
    (require (held d v || gets σ d.settled v) (NoValue v)
    (require (m.below (level d ρ v) w) (Hidden v)
    (Ok (ρ v, level d ρ v)))))
