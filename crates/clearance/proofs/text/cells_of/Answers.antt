use Rattle.std.proofs.Common.{◌≡◌, ℕ, ◌*◌, ◌<◌, ◌≤◌, ◌≢◌, length, get_or, take, set, ◌∙◌, arith, length-set, get_or-set_other, get_or-set_same, below_more, rules}
use Rattle.std.proofs.lemmas.List.FromFn.{fill_by_all}
use Rattle.std.proofs.lemmas.List.{get_or-take, length-take-le}
use Rattle.clearance.specs.Text.{cell}
use Rattle.clearance.specs.Squares.{square}
use Rattle.clearance.proofs.text.cells_of.Goals as goal

pub bounds-all-k : goal.bounds-all-k
bounds-all-k c = omega (arith, square c.args.n c.requires)

pub loop-k-preserved : goal.loop-k-preserved
loop-k-preserved c =
    let k = c.loop-k.k in
    let all = c.loop-k.all in
    let x = c.digit_of.result in
    let P : ℕ → Type 0 = λ j. get_or (set all k x) j 0 ≡ cell c.args.n c.args.text.now j in
    let here : k < length all = omega (arith, bounds-all-k c) in (
      simp length-set c.loop-k.invariant.0,
      below_more P k (λ j h. let ne : j ≢ k = omega arith in rw get_or-set_other (c.loop-k.invariant.1 j h)) (rw get_or-set_same (search rules)),
    )

pub returns : goal.returns
returns c =
    let n = c.args.n in
    let all = c.loop-k.all in
    let short : n * n ≤ length all = omega (arith, square n c.requires) in
    fill_by_all (cell n c.args.text.now) (take (n * n) all) (n * n) 0 (length-take-le (n * n) all short)
    (λ k h. get_or-take (n * n) all k 0 h ∙ c.loop-k.invariant.1 k (omega arith))
