use Rattle.std.proofs.Common.{ℕ, rules, tests, arith}
use Rattle.std.proofs.lemmas.Iterator.{first_from_Range}
use Rattle.lattice.specs.Meaning.{LeastAbove}
use Rattle.lattice.proofs.Ranges.{found_below}
use Rattle.clearance.proofs.relation.least_above.Goals as goal

pub returns : goal.returns
returns g c =
    let m = g.R.Relation.relation c.args.r.now in
    let P : ℕ → Type 0 = LeastAbove m c.args.a c.args.b in
    found_below c.size.result P (λ x l. omega (arith, c.size.ensures, (g.R.Relation.levels c.args.r.now _ _ l.left).1)) c.find.result
    (first_from_Range _ _ _ _ P (λ x. P x → ⊥) c.find.ensures.ran (λ x q k. search (rules, tests)) (λ x q k. search (rules, tests)))
