use Rattle.survey.proofs.Counting.{adds_none, adds_more}
use Rattle.survey.proofs.uses.add_each.Goals as goal

pub loop-k-init : goal.loop-k-init
loop-k-init g c = λ by each. adds_none _ by

pub loop-k-preserved : goal.loop-k-preserved
loop-k-preserved g c = λ by each. adds_more _ _ _ by c.loop-k.k (c.loop-k.invariant by each) (each _ _ _ c.add.ensures)
