use Rattle.std.proofs.Common.{rules, ℕ, ◌<◌, ◌≤◌, true, false, MatchOption, subst, arith}
use Rattle.std.proofs.lemmas.Iterator.{first_from_Range}
use Rattle.judgement.proofs.first.refuse_unfine.Goals as goal

pub returns-in-Some : goal.returns-in-Some
returns-in-Some g c =
    let No : ℕ → Type 0 = λ k. goal.F-post g c.args.is_fine k false in
    let Yes : ℕ → Type 0 = λ k. goal.F-post g c.args.is_fine k true in
    let first = first_from_Range _ _ _ _ No Yes c.find.ensures.ran (λ k q h. search rules) (λ k q h. search rules) in
    let at = subst (λ r. MatchOption r ((k : ℕ) → 0 ≤ k → k < c.args.count → Yes k) (λ i. (0 ≤ i) × (i < c.args.count) × No i × ((k : ℕ) → 0 ≤ k → k < i → Yes k))) c.in-Some.is first in
    (c.in-Some.k, at.1, at.2, search rules, λ j h. at.3 j (omega arith) h)

pub returns : goal.returns
returns g c =
    let No : ℕ → Type 0 = λ k. goal.F-post g c.args.is_fine k false in
    let Yes : ℕ → Type 0 = λ k. goal.F-post g c.args.is_fine k true in
    let first = first_from_Range _ _ _ _ No Yes c.find.ensures.ran (λ k q h. search rules) (λ k q h. search rules) in
    let none = subst (λ r. MatchOption r ((k : ℕ) → 0 ≤ k → k < c.args.count → Yes k) (λ i. (0 ≤ i) × (i < c.args.count) × No i × ((k : ℕ) → 0 ≤ k → k < i → Yes k))) c.in-None.is first in
    λ k h. none k (omega arith) h
