-- Which record is out of range: a field or a constant or a shift too large, a field without a use that is not 0, a number that names no record.
use Rattle.std.specs.Prelude.{ℕ, ◌^◌, Bool, true, false, not, ◌||◌, ◌==◌, nat_lt, Option, Some, None}
use Rattle.refusal.specs.declared.Section.{Section}
use Rattle.refusal.specs.declared.Section.TheVariants.{Tables, Variables, Blocks, Commands, Expressions}
use Rattle.records.specs.declared.codes.Kind.{Kind}
use Rattle.records.specs.declared.codes.Kind.TheVariants as kind
use Rattle.records.specs.declared.codes.Form.{Form}
use Rattle.records.specs.declared.codes.Form.TheVariants as form
use Rattle.records.specs.declared.cells.Variable.{Variable}
use Rattle.records.specs.declared.codes.BlockKind.{BlockKind}
use Rattle.records.specs.declared.codes.BlockKind.TheVariants as block
use Rattle.records.specs.declared.cells.Block.{Block}
use Rattle.records.specs.declared.codes.Step.{Step}
use Rattle.records.specs.declared.codes.Step.TheVariants as step
use Rattle.records.specs.declared.cells.Command.{Command}
use Rattle.records.specs.declared.codes.Operation.{Operation}
use Rattle.records.specs.declared.codes.Operation.TheVariants as op
use Rattle.records.specs.declared.cells.Expression.{Expression}
use Rattle.records.specs.Layouts.{File, count_in}
use Rattle.records.specs.Cells.{variable_at, block_at, command_at, expression_at}

-- not below n; not 0
abbrev pub out : ℕ → ℕ → Bool
out a n = not (nat_lt a n)

abbrev pub used : ℕ → Bool
used a = not (a == 0)

abbrev pub bad_width : ℕ → Bool
bad_width w = w == 0 || nat_lt 32 w

abbrev pub label_out : Option Form → (table level tables variables : ℕ) → Bool
label_out (Some form.Fixed) t x ts vs = used t
label_out (Some form.LookedUp) t x ts vs = out t ts || out x vs
label_out None t x ts vs = true

-- only a register has a reset value
abbrev pub reset_out : Option Kind → (reset width : ℕ) → Bool
reset_out (Some kind.Port) r w = used r
reset_out (Some kind.Register) r w = out r (2 ^ w)
reset_out (Some kind.Wire) r w = used r
reset_out None r w = true

abbrev pub variable_out : Variable → (tables variables : ℕ) → Bool
variable_out v ts vs = bad_width v.width || (label_out v.form v.table v.level ts vs || reset_out v.kind v.reset v.width)

abbrev pub block_kind_out : Option BlockKind → Bool
block_kind_out (Some block.Settled) = false
block_kind_out (Some block.Clocked) = false
block_kind_out None = true

abbrev pub block_out : Block → (commands : ℕ) → Bool
block_out b cs = block_kind_out b.kind || out b.top cs

abbrev pub step_out : Option Step → (a b c variables commands expressions : ℕ) → Bool
step_out (Some step.Idle) a b c vs cs es = used a || (used b || used c)
step_out (Some step.Both) a b c vs cs es = out a cs || (out b cs || used c)
step_out (Some step.Choose) a b c vs cs es = out a es || (out b cs || out c cs)
step_out (Some step.Assign) a b c vs cs es = out a vs || (out b es || used c)
step_out None a b c vs cs es = true

abbrev pub command_out : Command → (variables commands expressions : ℕ) → Bool
command_out x vs cs es = step_out x.step x.a x.b x.c vs cs es

-- a shift is below the width of its own record
abbrev pub operand_out : Option Operation → (width a b c variables expressions : ℕ) → Bool
operand_out (Some op.Constant) w a b c vs es = out a (2 ^ w) || (used b || used c)
operand_out (Some op.Variable) w a b c vs es = out a vs || (used b || used c)
operand_out (Some op.Not) w a b c vs es = out a es || (used b || used c)
operand_out (Some (op.Pair o)) w a b c vs es = out a es || (out b es || used c)
operand_out (Some op.ShiftLeft) w a b c vs es = out a es || (out b w || used c)
operand_out (Some op.ShiftRight) w a b c vs es = out a es || (out b w || used c)
operand_out (Some op.Part) w a b c vs es = out a es || used c
operand_out (Some op.Above) w a b c vs es = out a es || (out b es || used c)
operand_out (Some op.Choose) w a b c vs es = out a es || (out b es || out c es)
operand_out None w a b c vs es = true

abbrev pub expression_out : Expression → (variables expressions : ℕ) → Bool
expression_out x vs es =
    used x.third || (used x.fourth || (bad_width x.width || operand_out x.operation x.width x.a x.b x.c vs es))

-- levels are any four bytes
abbrev pub out_of_range : File → Section → ℕ → Bool
out_of_range f Tables n = false
out_of_range f Variables n = variable_out (variable_at f n) (count_in f Tables) (count_in f Variables)
out_of_range f Blocks n = block_out (block_at f n) (count_in f Commands)
out_of_range f Commands n = command_out (command_at f n) (count_in f Variables) (count_in f Commands) (count_in f Expressions)
out_of_range f Expressions n = expression_out (expression_at f n) (count_in f Variables) (count_in f Expressions)
