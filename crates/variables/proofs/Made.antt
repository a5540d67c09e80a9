-- Arrays made by a closure that no call changes.
use Rattle.std.proofs.Common.{◌≡◌, ℕ, ◌+◌, ◌<◌, ◌≤◌, zero, suc, List, get_or, sym, subst, ⊎_elim, arith}
use Rattle.std.proofs.lemmas.Bool.{cases_eq}
use Rattle.std.specs.Array.{IsFromFnResult, IsFromFnResultFrom}
use denote.Param.Members.{Mut, Called}

module _ {F B : Type 0} {g : Mut F (ℕ × Unit {0}) B} {f : F} (Gives : ℕ → B → Type 0) (once : (i : ℕ) (y : B) (q : F) → Called g f (i, tt) y q → Gives i y × (q ≡ f)) where
  given_from : (ys : List B) (d : B) (n i k : ℕ) → IsFromFnResultFrom g f ys i n → i ≤ k → k < i + n → Gives k (get_or ys k d)
  given_from ys d zero i k m low high = absurd (omega (arith, low, high))
  given_from ys d (suc n) i k m low high =
      let here = once i m.1 m.0 m.3 in
      ⊎_elim
      (λ (e : k ≡ i). subst (λ j. Gives j (get_or ys j d)) (sym e) (subst (Gives i) (sym (m.2.1 d)) here.0))
      (λ ne. given_from ys d n (i + 1) k (subst (λ p. IsFromFnResultFrom g p ys (i + 1) n) here.1 m.4) (omega (arith, low, ne)) (omega (arith, high)))
      (cases_eq k i)

  -- each element is one that a call gives at its index
  pub given : (ys : List B) (d : B) (n k : ℕ) → IsFromFnResult g f ys n → k < n → Gives k (get_or ys k d)
  given ys d n k m lt = given_from ys d n 0 k m.each (omega arith) (omega (arith, lt))

-- where a call gives one value at an index
pub made : {F B : Type 0} {g : Mut F (ℕ × Unit {0}) B} {f : F} (at : ℕ → B) → ((i : ℕ) (y : B) (q : F) → Called g f (i, tt) y q → (y ≡ at i) × (q ≡ f)) → (ys : List B) (d : B) (n k : ℕ) → IsFromFnResult g f ys n → k < n → get_or ys k d ≡ at k
made at once = given (λ i y. y ≡ at i) once
