-- How often each command and each expression is used.
use Rattle.std.specs.Prelude.{◌≡◌, ℕ, ◌+◌, ◌<◌, min, Option, Some, None, List, length, ◌==◌, slice_index_or}
use Rattle.refusal.specs.declared.Section.TheVariants.{Blocks, Commands, Expressions}
use Rattle.records.specs.declared.codes.Step.{Step}
use Rattle.records.specs.declared.codes.Step.TheVariants as step
use Rattle.records.specs.declared.cells.Command.{Command}
use Rattle.records.specs.declared.codes.Operation.{Operation}
use Rattle.records.specs.declared.codes.Operation.TheVariants as op
use Rattle.records.specs.declared.cells.Expression.{Expression}
use Rattle.records.specs.Layouts.{File, count_in}
use Rattle.records.specs.Cells.{block_at, command_at, expression_at}
use Rattle.survey.specs.Sums.{total, one}
use Rattle.survey.specs.declared.uses.Tally.{Tally}
use Rattle.survey.specs.declared.uses.UseCounts.{UseCounts}
use Rattle.survey.specs.declared.uses.Tally.TheVariants.{Never, Once, Often}

-- a field that names record a uses record n this often
abbrev pub use_of : ℕ → ℕ → ℕ
use_of a n = one (a == n)

-- how often a command has command n as a part
abbrev pub part_uses : Option Step → (a b c n : ℕ) → ℕ
part_uses (Some step.Idle) a b c n = 0
part_uses (Some step.Both) a b c n = use_of a n + use_of b n
part_uses (Some step.Choose) a b c n = use_of b n + use_of c n
part_uses (Some step.Assign) a b c n = 0
part_uses None a b c n = 0

-- how often a command uses expression n
abbrev pub value_uses : Option Step → (a b c n : ℕ) → ℕ
value_uses (Some step.Idle) a b c n = 0
value_uses (Some step.Both) a b c n = 0
value_uses (Some step.Choose) a b c n = use_of a n
value_uses (Some step.Assign) a b c n = use_of b n
value_uses None a b c n = 0

-- how often an expression has expression n as a part
abbrev pub operand_uses : Option Operation → (a b c n : ℕ) → ℕ
operand_uses (Some op.Constant) a b c n = 0
operand_uses (Some op.Variable) a b c n = 0
operand_uses (Some op.Not) a b c n = use_of a n
operand_uses (Some (op.Pair o)) a b c n = use_of a n + use_of b n
operand_uses (Some op.ShiftLeft) a b c n = use_of a n
operand_uses (Some op.ShiftRight) a b c n = use_of a n
operand_uses (Some op.Part) a b c n = use_of a n
operand_uses (Some op.Above) a b c n = use_of a n + use_of b n
operand_uses (Some op.Choose) a b c n = use_of a n + use_of b n + use_of c n
operand_uses None a b c n = 0

-- the same of block, command and expression k
abbrev pub top_use : File → ℕ → ℕ → ℕ
top_use f n k = use_of (block_at f k).top n

abbrev pub parts_of : Command → ℕ → ℕ
parts_of x n = part_uses x.step x.a x.b x.c n

abbrev pub values_of : Command → ℕ → ℕ
values_of x n = value_uses x.step x.a x.b x.c n

abbrev pub operands_of : Expression → ℕ → ℕ
operands_of x n = operand_uses x.operation x.a x.b x.c n

abbrev pub part_use : File → ℕ → ℕ → ℕ
part_use f n k = parts_of (command_at f k) n

abbrev pub value_use : File → ℕ → ℕ → ℕ
value_use f n k = values_of (command_at f k) n

abbrev pub operand_use : File → ℕ → ℕ → ℕ
operand_use f n k = operands_of (expression_at f k) n

-- altogether
abbrev pub command_used : File → ℕ → ℕ
command_used f n = total (top_use f n) (count_in f Blocks) + total (part_use f n) (count_in f Commands)

abbrev pub expr_used : File → ℕ → ℕ
expr_used f n = total (value_use f n) (count_in f Commands) + total (operand_use f n) (count_in f Expressions)

-- ---- counted up to two

-- a tally as a number
abbrev pub count_of : Tally → ℕ
count_of Never = 0
count_of Once = 1
count_of Often = 2

-- the numbers t, with 2 for all that is more
abbrev pub Tallies : List Tally → (ℕ → ℕ) → Type 0
Tallies xs t = (k : ℕ) → k < length xs → count_of (slice_index_or xs k Never) ≡ min (t k) 2

-- what was counted grows by g
abbrev pub Adds : List Tally → List Tally → (ℕ → ℕ) → Type 0
Adds xs ys g = (t : ℕ → ℕ) → Tallies xs t → Tallies ys (λ k. t k + g k)

-- the numbers of commands' and of expressions' uses
pub record Counts (f : File) (u : UseCounts) : Type 0 where
  pub commands : Tallies u.commands (command_used f)
  pub expressions : Tallies u.expressions (expr_used f)
