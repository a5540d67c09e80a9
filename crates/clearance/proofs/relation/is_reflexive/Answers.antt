use Rattle.std.proofs.Common.{ℕ, rules, tests}
use Rattle.lattice.specs.Meaning.{Below}
use Rattle.lattice.proofs.Ranges.{all_below}
use Rattle.clearance.proofs.relation.is_reflexive.Goals as goal

pub returns : goal.returns
returns g c =
    let m = g.R.Relation.relation c.args.r.now in
    let P : ℕ → Type 0 = λ a. Below m a a in
    rw c.size.ensures at (all_below _ _ _ _ P c.all.ensures.ran (λ x q k. search (rules, tests)) (λ x q k. search (rules, tests)))
