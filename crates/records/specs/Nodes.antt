-- What commands and expressions are. A record that is out of range is an idle command or no expression:
-- an unknown operation, a target past the most variables, a width not 1 to 32, a constant or a shift too large, a part that is not lower, a number at or past the section's limit.
use Rattle.std.specs.Prelude.{ℕ, ◌^◌, ◌<◌, Option, Some, None, cond, ◌&&◌, ◌||◌, ◌==◌, nat_lt}
use Rattle.refusal.specs.declared.Section.TheVariants.{Variables, Commands, Expressions}
use Rattle.records.specs.Layouts.{File, limit_of}
use Rattle.records.specs.Cells.{command_at, expression_at}
use Rattle.records.specs.declared.codes.Step.{Step}
use Rattle.records.specs.declared.codes.Step.TheVariants as step
use Rattle.records.specs.declared.cells.Command.{Command}
use Rattle.records.specs.declared.codes.Operation.{Operation}
use Rattle.records.specs.declared.codes.Operation.TheVariants as op
use Rattle.records.specs.declared.cells.Expression.{Expression}
use Rattle.records.specs.declared.nodes.Action.{Action}
use Rattle.records.specs.declared.nodes.Action.TheVariants.{Idle, Both, Choose, Assign}
use Rattle.records.specs.declared.nodes.Node.{Node}
use Rattle.records.specs.declared.nodes.Node.TheVariants as node

-- ---- commands

abbrev pub action_by : Option Step → (a b c n : ℕ) → Action
action_by (Some step.Idle) a b c n = Idle
action_by (Some step.Both) a b c n = cond (nat_lt a n && nat_lt b n) (Both a b) Idle
action_by (Some step.Choose) a b c n = cond (nat_lt b n && nat_lt c n) (Choose a b c) Idle
action_by (Some step.Assign) a b c n = cond (nat_lt a (limit_of Variables)) (Assign a b n) Idle
action_by None a b c n = Idle

abbrev pub action_of : Command → ℕ → Action
action_of x n = action_by x.step x.a x.b x.c n

abbrev pub action_at : File → ℕ → Action
action_at f n = cond (nat_lt n (limit_of Commands)) (action_of (command_at f n) n) Idle

-- each part is lower
abbrev pub LowerParts : Action → ℕ → Type 0
LowerParts Idle n = Unit {0}
LowerParts (Both a b) n = (a < n) × (b < n)
LowerParts (Choose e a b) n = (a < n) × (b < n)
LowerParts (Assign v e k) n = Unit {0}

-- ---- expressions

-- what stands for an expression that is not there: the constant 0 of no width
abbrev pub nil_node : Node
nil_node = node.Constant 0 0

abbrev pub operand_by : Option Operation → (w a b c n : ℕ) → Node
operand_by (Some op.Constant) w a b c n = cond (nat_lt a (2 ^ w)) (node.Constant w a) nil_node
operand_by (Some op.Variable) w a b c n = node.Variable w a n
operand_by (Some op.Not) w a b c n = cond (nat_lt a n) (node.Not w a) nil_node
operand_by (Some (op.Pair o)) w a b c n = cond (nat_lt a n && nat_lt b n) (node.Pair w o a b) nil_node
operand_by (Some op.ShiftLeft) w a b c n = cond (nat_lt a n && nat_lt b w) (node.ShiftLeft w a b) nil_node
operand_by (Some op.ShiftRight) w a b c n = cond (nat_lt a n && nat_lt b w) (node.ShiftRight w a b) nil_node
operand_by (Some op.Part) w a b c n = cond (nat_lt a n) (node.Part w a b) nil_node
operand_by (Some op.Above) w a b c n = cond (nat_lt a n && nat_lt b n) (node.Above w a b) nil_node
operand_by (Some op.Choose) w a b c n = cond (nat_lt a n && (nat_lt b n && nat_lt c n)) (node.Choose w a b c) nil_node
operand_by None w a b c n = nil_node

abbrev pub operand_of : Expression → ℕ → Node
operand_of x n = operand_by x.operation x.width x.a x.b x.c n

-- a width is 1 to 32
abbrev pub node_of : Expression → ℕ → Node
node_of x n = cond (x.width == 0 || nat_lt 32 x.width) nil_node (operand_of x n)

abbrev pub node_at : File → ℕ → Node
node_at f n = cond (nat_lt n (limit_of Expressions)) (node_of (expression_at f n) n) nil_node

-- each part is lower
abbrev pub LowerOperands : Node → ℕ → Type 0
LowerOperands (node.Constant w a) n = Unit {0}
LowerOperands (node.Variable w v k) n = Unit {0}
LowerOperands (node.Not w a) n = a < n
LowerOperands (node.Pair w o a b) n = (a < n) × (b < n)
LowerOperands (node.ShiftLeft w a b) n = a < n
LowerOperands (node.ShiftRight w a b) n = a < n
LowerOperands (node.Part w a b) n = a < n
LowerOperands (node.Above w a b) n = (a < n) × (b < n)
LowerOperands (node.Choose w a b c) n = (a < n) × (b < n) × (c < n)
