use Rattle.std.proofs.Common.{ℕ, rules, tests}
use Rattle.lattice.specs.Meaning.{Below}
use Rattle.lattice.proofs.Ranges.{all_below}
use Rattle.clearance.proofs.relation.is_least_above.Goals as goal

pub returns-then-holds-2 : goal.returns-then-holds-2
returns-then-holds-2 g c =
    let m = g.R.Relation.relation c.args.r.now in
    let P : ℕ → Type 0 = λ t. Below m c.args.a t → Below m c.args.b t → Below m c.args.x t in
    let below = rw c.size.ensures at (all_below _ _ _ _ P c.all.ensures.ran (λ x q k. search (rules, tests)) (λ x q k. search (rules, tests))) in (
      λ e. record { left = search rules; right = search rules; least = λ t h k. below.0 e t (g.R.Relation.levels c.args.r.now _ _ h).1 h k },
      λ l. below.1 (λ t _. l.least t),
    )
