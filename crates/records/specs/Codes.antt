-- What the codes of a record's fields say: nothing where a code is unknown.
use Rattle.std.specs.Prelude.{ℕ, cond, Option, Some, None, ◌==◌}
use Rattle.vectors.specs.declared.Pairing.TheVariants.{And, Or, Xor, Sum, Difference, Equals, Less}
use Rattle.records.specs.declared.codes.Kind.{Kind}
use Rattle.records.specs.declared.codes.Kind.TheVariants as kind
use Rattle.records.specs.declared.codes.Form.{Form}
use Rattle.records.specs.declared.codes.Form.TheVariants as form
use Rattle.records.specs.declared.codes.BlockKind.{BlockKind}
use Rattle.records.specs.declared.codes.BlockKind.TheVariants as block
use Rattle.records.specs.declared.codes.Step.{Step}
use Rattle.records.specs.declared.codes.Step.TheVariants as step
use Rattle.records.specs.declared.codes.Operation.{Operation}
use Rattle.records.specs.declared.codes.Operation.TheVariants as op

abbrev pub kind_from : ℕ → Option Kind
kind_from k = cond (k == 0) (Some kind.Port) (cond (k == 1) (Some kind.Register) (cond (k == 2) (Some kind.Wire) None))

abbrev pub form_from : ℕ → Option Form
form_from k = cond (k == 0) (Some form.Fixed) (cond (k == 1) (Some form.LookedUp) None)

abbrev pub block_kind_from : ℕ → Option BlockKind
block_kind_from k = cond (k == 0) (Some block.Settled) (cond (k == 1) (Some block.Clocked) None)

abbrev pub step_from : ℕ → Option Step
step_from k = cond (k == 0) (Some step.Idle) (cond (k == 1) (Some step.Both) (cond (k == 2) (Some step.Choose) (cond (k == 3) (Some step.Assign) None)))

abbrev pub operation_from : ℕ → Option Operation
operation_from k =
    cond (k == 0) (Some op.Constant)
    (cond (k == 1) (Some op.Variable)
    (cond (k == 2) (Some op.Not)
    (cond (k == 3) (Some (op.Pair And))
    (cond (k == 4) (Some (op.Pair Or))
    (cond (k == 5) (Some (op.Pair Xor))
    (cond (k == 6) (Some (op.Pair Sum))
    (cond (k == 7) (Some (op.Pair Difference))
    (cond (k == 8) (Some (op.Pair Equals))
    (cond (k == 9) (Some (op.Pair Less))
    (cond (k == 10) (Some op.ShiftLeft)
    (cond (k == 11) (Some op.ShiftRight)
    (cond (k == 12) (Some op.Part)
    (cond (k == 13) (Some op.Above)
    (cond (k == 14) (Some op.Choose) None))))))))))))))
