use Rattle.std.proofs.Common.{refl, arith, lit<}
use Rattle.lattice.specs.Owners.{sets_joins, sets_meets}
use Rattle.worked.proofs.Taking.{taking_formed, taking_1_typed, taking_2_breaks}
use Rattle.worked.proofs.Remembering.{one_formed, one_flows, one_breaks, both_formed, both_typed}
use Rattle.worked.proofs.rows_hold.Goals as goal

-- one row, and those after it
infixr 5 ◌⨾◌
◌⨾◌ : {A B : Type 0} → A → B → A × B
a ⨾ b = (a, b)

pub returns : goal.returns
returns c =
    sets_joins 3 5 3 (omega arith) (omega arith)
    ⨾ sets_meets 3 5 3 (omega arith) (omega arith)
    ⨾ refl
    ⨾ refl
    ⨾ refl
    ⨾ refl
    ⨾ refl
    ⨾ (taking_formed 1 (lit< tt), taking_1_typed)
    ⨾ (taking_formed 2 (lit< tt), taking_2_breaks)
    ⨾ (one_formed, tt, one_flows, one_breaks)
    ⨾ (both_formed, both_typed)
    ⨾ refl
    ⨾ tt
