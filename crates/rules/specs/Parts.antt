-- Which record is not used once, altogether, or has a part that is not lower.
use Rattle.std.specs.Prelude.{ℕ, Bool, false, not, ◌||◌, ◌==◌, Option, Some, None}
use Rattle.refusal.specs.declared.Section.{Section}
use Rattle.refusal.specs.declared.Section.TheVariants.{Tables, Variables, Blocks, Commands, Expressions}
use Rattle.records.specs.declared.codes.Step.{Step}
use Rattle.records.specs.declared.codes.Step.TheVariants as step
use Rattle.records.specs.declared.cells.Command.{Command}
use Rattle.records.specs.declared.codes.Operation.{Operation}
use Rattle.records.specs.declared.codes.Operation.TheVariants as op
use Rattle.records.specs.declared.cells.Expression.{Expression}
use Rattle.records.specs.Cells.{command_at, expression_at}
use Rattle.survey.specs.Uses.{command_used, expr_used}
use Rattle.rules.specs.Ranges.{out}
use Rattle.records.specs.Layouts.{File}

abbrev pub differ : ℕ → ℕ → Bool
differ a b = not (a == b)

abbrev pub high_parts : Option Step → (a b c n : ℕ) → Bool
high_parts (Some step.Idle) a b c n = false
high_parts (Some step.Both) a b c n = out a n || out b n
high_parts (Some step.Choose) a b c n = out b n || out c n
high_parts (Some step.Assign) a b c n = false
high_parts None a b c n = false

abbrev pub command_high : Command → ℕ → Bool
command_high x n = high_parts x.step x.a x.b x.c n

abbrev pub high_operands : Option Operation → (a b c n : ℕ) → Bool
high_operands (Some op.Constant) a b c n = false
high_operands (Some op.Variable) a b c n = false
high_operands (Some op.Not) a b c n = out a n
high_operands (Some (op.Pair o)) a b c n = out a n || out b n
high_operands (Some op.ShiftLeft) a b c n = out a n
high_operands (Some op.ShiftRight) a b c n = out a n
high_operands (Some op.Part) a b c n = out a n
high_operands (Some op.Above) a b c n = out a n || out b n
high_operands (Some op.Choose) a b c n = out a n || (out b n || out c n)
high_operands None a b c n = false

abbrev pub expr_high : Expression → ℕ → Bool
expr_high x n = high_operands x.operation x.a x.b x.c n

abbrev pub misused : File → Section → ℕ → Bool
misused f Tables n = false
misused f Variables n = false
misused f Blocks n = false
misused f Commands n = differ (command_used f n) 1 || command_high (command_at f n) n
misused f Expressions n = differ (expr_used f n) 1 || expr_high (expression_at f n) n
