use Rattle.std.proofs.Common.{arith}
use Rattle.survey.proofs.Marking.{follows_decided}
use Rattle.survey.proofs.survey.Findings.comes_after.Goals as goal

pub returns : goal.returns
returns c = λ f found lv ls n.
    rw (← n)
    (follows_decided _ _ _ _ _ _ (omega (arith, lv)) (omega (arith, ls)) (omega arith) (λ b lt. found.assigned.apart b (omega (arith, lt, n))) c.assigned_after.ensures)
