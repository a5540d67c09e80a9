use Rattle.std.proofs.Common.{rules, ℕ, ◌<◌, ◌≤◌, MatchOption, Some, None, unwrap_or, arith, subst, sym}
use Rattle.std.proofs.lemmas.Iterator.{first_from_Range}
use Rattle.language.specs.Finite.{May}
use Rattle.records.specs.Trees.{design_of}
use Rattle.paths.specs.Marks.{sets_of}
use Rattle.flows.proofs.showing.some_value.Goals as goal

pub returns-clause-left : goal.returns-clause-left
returns-clause-left c x may =
    let Left : ℕ → Type 0 = May (design_of c.args.file.now) (sets_of c.args.sets.now) c.args.v in
    let first = first_from_Range _ _ _ _ Left (λ k. Left k → ⊥) c.find.ensures.ran (λ k q h. search rules) (λ k q h. search rules) in
    subst Left (sym c.unwrap_or.ensures)
    ((elim c.find.result as (λ r. MatchOption r ((k : ℕ) → 0 ≤ k → k < 16 → Left k → ⊥) (λ i. (0 ≤ i) × (i < 16) × Left i × ((k : ℕ) → 0 ≤ k → k < i → Left k → ⊥)) → Left (unwrap_or r 0)) [
      | None ↦ λ h. absurd (h x (omega arith) may.small may)
      | Some y ↦ λ h. h.2
    ]) first)
