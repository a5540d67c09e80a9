use Rattle.std.proofs.Common.{◌≡◌, ℕ, ◌+◌, ◌*◌, ◌<◌, length, get_or, rules, tests}
use Rattle.lattice.proofs.Ranges.{all_below}
use Rattle.clearance.proofs.text.is_ruled.Goals as goal

pub returns : goal.returns
returns c =
    let n = c.args.n in
    let text = c.args.text.now in
    let P : ℕ → Type 0 = λ a. a * (n + 1) + n < length text → get_or text (a * (n + 1) + n) 0 ≡ 10 in
    let below = all_below _ _ _ _ P c.all.ensures.ran (λ x q k. search (rules, tests)) (λ x q k. search (rules, tests)) in (
      λ e. record { size = search rules; ends = λ a l. below.0 e a l },
      λ ruled. below.1 ruled.ends,
    )
