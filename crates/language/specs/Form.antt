-- Which designs are formed. Form is five rules, and widths:
-- 1. Each part is used once, by a higher record. It is a rule about records: a tree has each of its parts once as it is.
-- 2. Settled blocks assign wires alone, clocked blocks registers alone.
-- 3. A variable is assigned in at most one block, a wire in exactly one and on every path of it;
--    two assignments of one variable stand in opposite branches of some choice.
-- 4. A wire is read only in blocks after its own.
-- 5. A selector is narrow and has a fixed label, unless it is the labelled variable itself; and it is of a fitting kind.
use Rattle.std.specs.Prelude.{◌≡◌, ℕ, ◌+◌, ◌^◌, ◌<◌, ◌≤◌, Bool, true, false, ◌&&◌, ◌||◌, ◌≢◌, ◌⊎◌, List, [], ◌∷◌, ◌==◌}
use Rattle.lattice.specs.Meaning.{All}
use Rattle.language.specs.Syntax.{Op, Expr, Cmd, Design, and, or, xor, sum, difference, equals, less, constant, variable, complement, binary, shift_left, shift_right, part, above, choose, idle, seq, choice, assign, port, register, fixed, looked_up, var, width, vars, together}
use Rattle.language.specs.Machine.{inside, held}

-- ---- walks over commands

-- a condition, and whether it is 1 on this path
abbrev pub Way : Type 0
Way = Expr × Bool

-- C holds of each condition of a command, and A of each assignment: the path to it, its target and its expression
abbrev pub Each : (Expr → Type 0) → (List Way → ℕ → Expr → Type 0) → List Way → Cmd → Type 0
Each C A path idle = Unit
Each C A path (seq a b) = Each C A path a × Each C A path b
Each C A path (choice e a b) = C e × Each C A ((e, true) ∷ path) a × Each C A ((e, false) ∷ path) b
Each C A path (assign u e k) = A path u e

-- the same of each block
abbrev pub Every : (Expr → Type 0) → (List Way → ℕ → Expr → Type 0) → List Cmd → Type 0
Every C A blocks = All (Each C A []) blocks

-- does a command assign v? does it on every path?
abbrev pub assigns : Cmd → ℕ → Bool
assigns idle v = false
assigns (seq a b) v = assigns a v || assigns b v
assigns (choice e a b) v = assigns a v || assigns b v
assigns (assign u e k) v = u == v

abbrev pub always : Cmd → ℕ → Bool
always idle v = false
always (seq a b) v = always a v || always b v
always (choice e a b) v = always a v && always b v
always (assign u e k) v = u == v

-- two assignments of one variable stand in opposite branches of some choice: no two parts of a sequence have one each
abbrev pub Apart : Cmd → Type 0
Apart idle = Unit
Apart (seq a b) = Apart a × Apart b × ((v : ℕ) → assigns a v ≡ true → assigns b v ≡ false)
Apart (choice e a b) = Apart a × Apart b
Apart (assign u e k) = Unit

-- ---- widths

-- the width of an operation on two parts of the width w
abbrev pub of_op : Op → ℕ → ℕ
of_op and w = w
of_op or w = w
of_op xor w = w
of_op sum w = w
of_op difference w = w
of_op equals w = 1
of_op less w = 1

abbrev pub Sized : Design → Expr → Type 0
Sized d (constant w n) = n < 2 ^ w
Sized d (variable w v k) = w ≡ (var d v).width
Sized d (complement w a) = Sized d a × (width a ≡ w)
Sized d (binary w o a b) = Sized d a × Sized d b × (width a ≡ width b) × (w ≡ of_op o (width a))
Sized d (shift_left w a n) = Sized d a × (width a ≡ w) × (n < w)
Sized d (shift_right w a n) = Sized d a × (width a ≡ w) × (n < w)
Sized d (part w n a) = Sized d a × (n + w ≤ width a)
Sized d (above w a b) = Sized d a × Sized d b × (w ≡ width a + width b)
Sized d (choose w c a b) = Sized d c × (width c ≡ 1) × Sized d a × (width a ≡ w) × Sized d b × (width b ≡ w)

-- an expression of the width w that reads known variables
pub record Reads (d : Design) (known : ℕ → Bool) (w : ℕ) (e : Expr) : Type 0 where
  pub sized : Sized d e
  pub wide : width e ≡ w
  pub reads : All (λ v. known v ≡ true) (vars e)

-- ---- blocks

-- an assignment in the settled block c, where `known` has the ports, the registers and the wires of earlier blocks:
-- it reads known variables (4); its target is not known, so a wire (2) and of no earlier block (3), and is assigned on every path (3);
-- the target's selector is known, or is the target (5)
pub record Settles (d : Design) (known : ℕ → Bool) (c : Cmd) (u : ℕ) (e : Expr) : Type 0 where
  pub source : Reads d known (var d u).width e
  pub target : inside d u ≡ true
  pub first : known u ≡ false
  pub all : always c u ≡ true
  pub selector : (t s : ℕ) → (var d u).label ≡ looked_up t s → (s ≡ u) ⊎ (known s ≡ true)

-- the settled blocks in order; after the last one every variable is known, so every wire is assigned (3)
abbrev pub Settling : Design → (ℕ → Bool) → List Cmd → Type 0
Settling d known [] = (v : ℕ) → inside d v ≡ true → known v ≡ true
Settling d known (c ∷ cs) =
    Each (Reads d known 1) (λ path. Settles d known c) [] c × Apart c × Settling d (λ v. known v || assigns c v) cs

-- an assignment in a clocked block: it may read every variable, and its target is a register (2)
pub record Clocks (d : Design) (u : ℕ) (e : Expr) : Type 0 where
  pub source : Reads d (inside d) (var d u).width e
  pub target : (var d u).kind ≡ register

-- ---- selectors

-- s may be the selector of v (5); of a wire's selector `Settles` says the rest
pub record Selects (d : Design) (v s : ℕ) : Type 0 where
  pub names : inside d s ≡ true
  pub narrow : (var d s).width ≤ 4
  pub own : (s ≡ v) ⊎ ((l : ℕ) × ((var d s).label ≡ fixed l))
  pub of_port : (var d v).kind ≡ port → (s ≢ v) × (held d s ≡ true)
  pub of_register : (var d v).kind ≡ register → held d s ≡ true

pub record Formed (d : Design) : Type 0 where
  pub resets : (v : ℕ) → (var d v).reset < 2 ^ (var d v).width
  pub settling : Settling d (held d) d.settled
  pub clocking : Every (Reads d (inside d) 1) (λ path. Clocks d) d.clocked
  pub apart : Apart (together d.clocked)
  pub selectors : (v t s : ℕ) → (var d v).label ≡ looked_up t s → Selects d v s
