-- The records of each section, as their bytes have them.
use Rattle.std.specs.Prelude.{ℕ, Some, List, [], ◌∷◌, slice_index}
use Rattle.refusal.specs.declared.Section.TheVariants.{Variables, Blocks, Commands, Expressions}
use Rattle.records.specs.Bytes.{field_of}
use Rattle.records.specs.Codes.{kind_from, form_from, block_kind_from, step_from, operation_from}
use Rattle.records.specs.declared.codes.Kind.TheVariants as kind
use Rattle.records.specs.declared.codes.Form.TheVariants as form
use Rattle.records.specs.Layouts.{File, record_of}
use Rattle.records.specs.declared.cells.Variable.{Variable}
use Rattle.records.specs.declared.cells.Block.{Block}
use Rattle.records.specs.declared.cells.Command.{Command}
use Rattle.records.specs.declared.cells.Expression.{Expression}

-- ---- the record that a part of the file begins with

abbrev pub blank : Variable
blank = record { kind = Some kind.Port; width = 0; form = Some form.Fixed; table = 0; level = 0; reset = 0 }

-- one that is cut short counts as zeros
abbrev pub variable_from : List ℕ → Variable
variable_from (kind ∷ width ∷ form ∷ table ∷ rest) =
    record { kind = kind_from kind; width = width; form = form_from form; table = table; level = field_of rest 0; reset = field_of rest 4 }
variable_from [] = blank
variable_from (a ∷ []) = blank
variable_from (a ∷ b ∷ []) = blank
variable_from (a ∷ b ∷ c ∷ []) = blank

abbrev pub block_from : List ℕ → Block
block_from s = record { kind = block_kind_from (field_of s 0); top = field_of s 4 }

abbrev pub command_from : List ℕ → Command
command_from s = record { step = step_from (field_of s 0); a = field_of s 4; b = field_of s 8; c = field_of s 12 }

abbrev pub expression_from : List ℕ → Expression
expression_from s = record {
  operation = operation_from (slice_index s 0);
  width = slice_index s 1;
  third = slice_index s 2;
  fourth = slice_index s 3;
  a = field_of s 4;
  b = field_of s 8;
  c = field_of s 12;
}

-- ---- record n of a section

abbrev pub variable_at : File → ℕ → Variable
variable_at f n = variable_from (record_of f Variables n)

abbrev pub block_at : File → ℕ → Block
block_at f n = block_from (record_of f Blocks n)

abbrev pub command_at : File → ℕ → Command
command_at f n = command_from (record_of f Commands n)

abbrev pub expression_at : File → ℕ → Expression
expression_at f n = expression_from (record_of f Expressions n)
