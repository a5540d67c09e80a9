use Rattle.std.proofs.Common.{ℕ, List, MutBor}
use Rattle.survey.specs.declared.uses.Tally.{Tally}
use Rattle.survey.specs.Sums.{total}
use Rattle.survey.specs.Uses.{Adds}
use Rattle.survey.proofs.uses.add_each.Given as goal

abbrev pub invariant-loop-k : goal.invariant-loop-k
invariant-loop-k g l =
    (by : ℕ → ℕ → ℕ) → ((k : ℕ) (p q : MutBor (List Tally)) → goal.F-post g l.fn.add p k tt q → Adds p.now q.now (λ n. by n k)) → Adds l.fn.uses l.uses (λ n. total (by n) l.k)
