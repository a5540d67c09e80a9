use Rattle.std.proofs.Common.{◌≡◌, ℕ, true, not, ◌&&◌, rules, tests}
use Rattle.language.specs.Form.{always}
use Rattle.records.specs.Trees.{settled_at, body_at}
use Rattle.lattice.proofs.Ranges.{any_below}
use Rattle.judgement.proofs.Bodies.{always_by}
use Rattle.judgement.proofs.staying.always_clocked.Goals as goal

pub returns : goal.returns
returns c =
    let f = c.args.file.now in
    let P : ℕ → Type 0 = λ b. (not (settled_at f b) && always (body_at f b) c.args.v) ≡ true in
    always_by f c.args.v c.any.result
    (rw c.count.ensures.is at (any_below _ _ _ _ P c.any.ensures.ran (λ x q k. search (rules, tests)) (λ x q k. search (rules, tests))))
