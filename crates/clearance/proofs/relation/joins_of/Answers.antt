use Rattle.std.proofs.Common.{◌≡◌, ℕ, ◌*◌, ◌/◌, ◌%◌, ◌<◌, ◌≢◌, length, get_or, set, arith, length-set, get_or-set_other, get_or-set_same, below_more, rules}
use Rattle.lattice.specs.Meaning.{LeastAbove, HasJoins}
use Rattle.refusal.specs.declared.Refusal.TheVariants.{NotALattice}
use Rattle.clearance.specs.Squares.{square, row_below, column_below}
use Rattle.clearance.proofs.relation.joins_of.Goals as goal

pub bounds-joins-k : goal.bounds-joins-k
bounds-joins-k g c = omega (arith, square c.size-n.result (omega (arith, c.size-n.ensures, c.requires)))

pub returns-in_err-x : goal.returns-in_err-x
returns-in_err-x g c =
    let m = g.R.Relation.relation c.args.r.now in
    let n = c.size-n.result in
    let k = c.loop-k.k in
    let inside : k < n * n = omega arith in
    let row : k / n < m.count = omega (arith, c.size-n.ensures, row_below n k inside) in
    let column : k % n < m.count = omega (arith, c.size-n.ensures, column_below n k inside) in
    let none : (x : ℕ) → LeastAbove m (k / n) (k % n) x → ⊥ = search rules in
    let told : (HasJoins m → ⊥) × (c.in_err-x.field-0.0 ≡ NotALattice) = ((λ has. let found = has (k / n) (k % n) row column in none found.0 found.1), search rules) in
    search rules

pub loop-k-preserved : goal.loop-k-preserved
loop-k-preserved g c =
    let m = g.R.Relation.relation c.args.r.now in
    let n = c.size-n.result in
    let k = c.loop-k.k in
    let joins = c.loop-k.joins in
    let x = c.in_ok-x.x in
    let P : ℕ → Type 0 = λ j. LeastAbove m (j / n) (j % n) (get_or (set joins k x) j 0) in
    let here : k < length joins = omega (arith, bounds-joins-k g c) in (
      simp length-set c.loop-k.invariant.0,
      below_more P k (λ j h. let ne : j ≢ k = omega arith in rw get_or-set_other (c.loop-k.invariant.1 j h)) (rw get_or-set_same (search rules)),
    )
