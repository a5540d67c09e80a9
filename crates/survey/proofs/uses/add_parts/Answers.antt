use Rattle.std.proofs.Common.{rules}
use Rattle.survey.proofs.Counting.{adds_two}
use Rattle.survey.proofs.uses.add_parts.Goals as goal

pub returns-in-Some-Both : goal.returns-in-Some-Both
returns-in-Some-Both c =
    let two = adds_two _ _ _ _ _ c.add_use.ensures c.add_use-in-Some-Both.ensures in
    search (rules, two)

pub returns-in-Some-Choose : goal.returns-in-Some-Choose
returns-in-Some-Choose c =
    let two = adds_two _ _ _ _ _ c.add_use-in-Some-Choose.ensures c.add_use-in-Some-Choose-2.ensures in
    search (rules, two)
