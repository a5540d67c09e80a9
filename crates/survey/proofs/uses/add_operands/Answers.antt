use Rattle.std.proofs.Common.{rules}
use Rattle.survey.proofs.Counting.{adds_two}
use Rattle.survey.proofs.uses.add_operands.Goals as goal

pub returns-in-Some-Pair : goal.returns-in-Some-Pair
returns-in-Some-Pair c =
    let two = adds_two _ _ _ _ _ c.add_use-in-Some-Pair.ensures c.add_use-in-Some-Pair-2.ensures in
    search (rules, two)

pub returns-in-Some-Choose : goal.returns-in-Some-Choose
returns-in-Some-Choose c =
    let two = adds_two _ _ _ _ _ c.add_use-in-Some-Choose.ensures c.add_use-in-Some-Choose-2.ensures in
    let three = adds_two _ _ _ _ _ two c.add_use-in-Some-Choose-3.ensures in
    search (rules, three)
