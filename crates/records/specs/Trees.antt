-- Commands and expressions as trees, and the design that a file describes. Any bytes describe one.
use Rattle.std.specs.Prelude.{ℕ, zero, suc, ◌+◌, ◌*◌, Bool, true, false, Option, Some, None, cond, not, List, [], ◌∷◌, ◌++◌, map, slice_index_or}
use Rattle.std.specs.List.{range_with_len}
use Rattle.refusal.specs.declared.Section.TheVariants.{Tables, Variables, Blocks}
use Rattle.language.specs.Syntax as tree
use Rattle.vectors.specs.Operations.{op_of}
use Rattle.language.specs.Syntax.{Expr, Cmd, Label, Design, constant, variable, complement, binary, shift_left, shift_right, part, above, choose, idle, seq, choice, assign, port, register, wire, fixed, looked_up}
use Rattle.records.specs.Bytes.{field_of}
use Rattle.records.specs.Layouts.{File, record_of, count_in}
use Rattle.records.specs.Cells.{variable_at, block_at}
use Rattle.records.specs.Nodes.{action_at, node_at}
use Rattle.records.specs.declared.codes.Kind.{Kind}
use Rattle.records.specs.declared.codes.Kind.TheVariants as kind
use Rattle.records.specs.declared.codes.Form.{Form}
use Rattle.records.specs.declared.codes.Form.TheVariants as form
use Rattle.records.specs.declared.cells.Variable.{Variable}
use Rattle.records.specs.declared.codes.BlockKind.{BlockKind}
use Rattle.records.specs.declared.codes.BlockKind.TheVariants as block
use Rattle.records.specs.declared.nodes.Action.{Action}
use Rattle.records.specs.declared.nodes.Action.TheVariants.{Idle, Both, Choose, Assign}
use Rattle.records.specs.declared.nodes.Node.{Node}
use Rattle.records.specs.declared.nodes.Node.TheVariants as node

-- ---- things built from numbered records, each from those with lower numbers

-- the things of the records below n: `at` reads a record, `grow` puts its parts in, and `nil` stands for a part that is not there
unfoldable pub builts : {N T : Type 0} → (ℕ → N) → (N → (ℕ → T) → T) → T → ℕ → List T
builts at grow nil zero = []
builts at grow nil (suc n) = builts at grow nil n ++ grow (at n) (λ k. slice_index_or (builts at grow nil n) k nil) ∷ []

-- the thing of record n
unfoldable pub built : {N T : Type 0} → (ℕ → N) → (N → (ℕ → T) → T) → T → ℕ → T
built at grow nil n = grow (at n) (λ k. slice_index_or (builts at grow nil n) k nil)

-- ---- expressions and commands

abbrev pub grow_expr : Node → (ℕ → Expr) → Expr
grow_expr (node.Constant w a) at = constant w a
grow_expr (node.Variable w v k) at = variable w v k
grow_expr (node.Not w a) at = complement w (at a)
grow_expr (node.Pair w o a b) at = binary w (op_of o) (at a) (at b)
grow_expr (node.ShiftLeft w a b) at = shift_left w (at a) b
grow_expr (node.ShiftRight w a b) at = shift_right w (at a) b
grow_expr (node.Part w a b) at = part w b (at a)
grow_expr (node.Above w a b) at = above w (at a) (at b)
grow_expr (node.Choose w a b c) at = choose w (at a) (at b) (at c)

-- expression n
abbrev pub expr_at : File → ℕ → Expr
expr_at f n = built (node_at f) grow_expr (constant 0 0) n

abbrev pub grow_cmd : (ℕ → Expr) → Action → (ℕ → Cmd) → Cmd
grow_cmd es Idle at = idle
grow_cmd es (Both a b) at = seq (at a) (at b)
grow_cmd es (Choose e a b) at = choice (es e) (at a) (at b)
grow_cmd es (Assign v e k) at = assign v (es e) k

-- command n
abbrev pub cmd_at : File → ℕ → Cmd
cmd_at f n = built (action_at f) (grow_cmd (expr_at f)) idle n

-- the command of block b
abbrev pub body_at : File → ℕ → Cmd
body_at f b = cmd_at f (block_at f b).top

-- ---- the design

abbrev pub kind_of : Option Kind → tree.Kind
kind_of (Some kind.Port) = port
kind_of (Some kind.Register) = register
kind_of (Some kind.Wire) = wire
kind_of None = wire

abbrev pub label_by : Option Form → (table level : ℕ) → Label
label_by (Some form.Fixed) t x = fixed x
label_by (Some form.LookedUp) t x = looked_up t x
label_by None t x = fixed x

abbrev pub variable_of : Variable → tree.Variable
variable_of v = record { kind = kind_of v.kind; width = v.width; label = label_by v.form v.table v.level; reset = v.reset }

abbrev pub is_settled : Option BlockKind → Bool
is_settled (Some block.Settled) = true
is_settled (Some block.Clocked) = false
is_settled None = false

abbrev pub settled_at : File → ℕ → Bool
settled_at f b = is_settled (block_at f b).kind

-- the commands of those of the blocks b to b + k - 1 that are wanted
abbrev pub bodies : File → (ℕ → Bool) → ℕ → ℕ → List Cmd
bodies f wanted b zero = []
bodies f wanted b (suc k) = cond (wanted b) (body_at f b ∷ bodies f wanted (b + 1) k) (bodies f wanted (b + 1) k)

-- the sixteen entries of table t
abbrev pub table_at : File → ℕ → List ℕ
table_at f t = map (λ i. field_of (record_of f Tables t) (4 * i)) (range_with_len 0 16)

unfoldable pub design_of : File → Design
design_of f = record {
  tables = map (table_at f) (range_with_len 0 (count_in f Tables));
  variables = map (λ v. variable_of (variable_at f v)) (range_with_len 0 (count_in f Variables));
  settled = bodies f (settled_at f) 0 (count_in f Blocks);
  clocked = bodies f (λ b. not (settled_at f b)) 0 (count_in f Blocks);
}
