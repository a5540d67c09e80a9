-- Which record does not fit the widths of its parts, or of its variable.
use Rattle.std.specs.Prelude.{ℕ, ◌+◌, Bool, false, ◌||◌, nat_lt, Option, Some, None}
use Rattle.refusal.specs.declared.Section.{Section}
use Rattle.refusal.specs.declared.Section.TheVariants.{Tables, Variables, Blocks, Commands, Expressions}
use Rattle.language.specs.Form.{of_op}
use Rattle.records.specs.declared.codes.Step.{Step}
use Rattle.records.specs.declared.codes.Step.TheVariants as step
use Rattle.records.specs.declared.cells.Command.{Command}
use Rattle.records.specs.declared.codes.Operation.{Operation}
use Rattle.records.specs.declared.codes.Operation.TheVariants as op
use Rattle.records.specs.declared.cells.Expression.{Expression}
use Rattle.records.specs.Cells.{variable_at, command_at, expression_at}
use Rattle.vectors.specs.Operations.{op_of}
use Rattle.rules.specs.Parts.{differ}
use Rattle.records.specs.Layouts.{File}

-- the widths of expression e and of variable v
abbrev pub wide : File → ℕ → ℕ
wide f e = (expression_at f e).width

abbrev pub var_wide : File → ℕ → ℕ
var_wide f v = (variable_at f v).width

-- a condition is 1 wide
abbrev pub step_misfit : File → Option Step → (a b : ℕ) → Bool
step_misfit f (Some step.Idle) a b = false
step_misfit f (Some step.Both) a b = false
step_misfit f (Some step.Choose) a b = differ (wide f a) 1
step_misfit f (Some step.Assign) a b = differ (wide f b) (var_wide f a)
step_misfit f None a b = false

abbrev pub command_misfit : File → Command → Bool
command_misfit f x = step_misfit f x.step x.a x.b

abbrev pub operand_misfit : File → Option Operation → (w a b c : ℕ) → Bool
operand_misfit f (Some op.Constant) w a b c = false
operand_misfit f (Some op.Variable) w a b c = differ w (var_wide f a)
operand_misfit f (Some op.Not) w a b c = differ (wide f a) w
operand_misfit f (Some (op.Pair o)) w a b c = differ (wide f a) (wide f b) || differ w (of_op (op_of o) (wide f a))
operand_misfit f (Some op.ShiftLeft) w a b c = differ (wide f a) w
operand_misfit f (Some op.ShiftRight) w a b c = differ (wide f a) w
operand_misfit f (Some op.Part) w a b c = nat_lt (wide f a) (b + w)
operand_misfit f (Some op.Above) w a b c = differ w (wide f a + wide f b)
operand_misfit f (Some op.Choose) w a b c = differ (wide f a) 1 || (differ (wide f b) w || differ (wide f c) w)
operand_misfit f None w a b c = false

abbrev pub expr_misfit : File → Expression → Bool
expr_misfit f x = operand_misfit f x.operation x.width x.a x.b x.c

abbrev pub misfits : File → Section → ℕ → Bool
misfits f Tables n = false
misfits f Variables n = false
misfits f Blocks n = false
misfits f Commands n = command_misfit f (command_at f n)
misfits f Expressions n = expr_misfit f (expression_at f n)
