use Rattle.std.proofs.Common.{◌≡◌, ℕ, rules, tests}
use Rattle.lattice.specs.Meaning.{Below}
use Rattle.lattice.proofs.Ranges.{all_below}
use Rattle.clearance.proofs.relation.is_alone.Goals as goal

pub returns : goal.returns
returns g c =
    let m = g.R.Relation.relation c.args.r.now in
    let P : ℕ → Type 0 = λ b. Below m c.args.a b → Below m b c.args.a → c.args.a ≡ b in
    let below = rw c.size.ensures at (all_below _ _ _ _ P c.all.ensures.ran (λ x q k. search (rules, tests)) (λ x q k. search (rules, tests))) in
    (λ e b h k. below.0 e b (g.R.Relation.levels c.args.r.now _ _ h).1 h k, λ all. below.1 (λ b l. all b))
