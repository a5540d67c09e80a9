-- What a design is: trees of expressions and commands over numbered variables.
-- A reading and an assignment carry the number of the record that they stand in, by which a refusal names them.
use Rattle.std.specs.Prelude.{ℕ, List, [], ◌∷◌, ◌++◌, length, slice_index, slice_index_or}

pub data Op : Type 0 where
  and or xor sum difference equals less : Op

-- each expression has its own width first
pub data Expr : Type 0 where
  constant : (width n : ℕ) → Expr
  variable : (width v place : ℕ) → Expr
  complement : (width : ℕ) → Expr → Expr
  binary : (width : ℕ) → Op → Expr → Expr → Expr
  shift_left shift_right : (width : ℕ) → Expr → (by : ℕ) → Expr
  -- as many bits as the width says, from bit `from` up
  part : (width from : ℕ) → Expr → Expr
  -- the first joined above the second
  above : (width : ℕ) → Expr → Expr → Expr
  -- the second where the first is 1, otherwise the third
  choose : (width : ℕ) → Expr → Expr → Expr → Expr

pub data Cmd : Type 0 where
  idle : Cmd
  seq : Cmd → Cmd → Cmd
  -- the first command where the condition is 1, otherwise the second
  choice : Expr → Cmd → Cmd → Cmd
  assign : (target : ℕ) → Expr → (place : ℕ) → Cmd

pub data Kind : Type 0 where
  port register wire : Kind

-- a variable's level is fixed, or stands in a table at the value of its selector
pub data Label : Type 0 where
  fixed : (level : ℕ) → Label
  looked_up : (table selector : ℕ) → Label

pub record Variable : Type 0 where
  pub kind : Kind
  pub width : ℕ
  pub label : Label
  pub reset : ℕ

-- the settled blocks give the wires their values, the clocked blocks the registers
pub record Design : Type 0 where
  pub tables : List (List ℕ)
  pub variables : List Variable
  pub settled : List Cmd
  pub clocked : List Cmd

-- what stands for a number that names no variable
abbrev pub nothing : Variable
nothing = record { kind = wire; width = 0; label = fixed 0; reset = 0 }

abbrev pub count : Design → ℕ
count d = length d.variables

abbrev pub var : Design → ℕ → Variable
var d v = slice_index_or d.variables v nothing

-- entry i of the table t
abbrev pub entry : Design → ℕ → ℕ → ℕ
entry d t i = slice_index (slice_index_or d.tables t []) i

abbrev pub width : Expr → ℕ
width (constant w n) = w
width (variable w v k) = w
width (complement w a) = w
width (binary w o a b) = w
width (shift_left w a n) = w
width (shift_right w a n) = w
width (part w n a) = w
width (above w a b) = w
width (choose w c a b) = w

-- the variables that an expression reads
abbrev pub vars : Expr → List ℕ
vars (constant w n) = []
vars (variable w v k) = v ∷ []
vars (complement w a) = vars a
vars (binary w o a b) = vars a ++ vars b
vars (shift_left w a n) = vars a
vars (shift_right w a n) = vars a
vars (part w n a) = vars a
vars (above w a b) = vars a ++ vars b
vars (choose w c a b) = vars c ++ (vars a ++ vars b)

-- blocks as one command, each after those before it
abbrev pub together : List Cmd → Cmd
together [] = idle
together (c ∷ cs) = seq c (together cs)
