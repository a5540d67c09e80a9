-- What is built of a record, from what is built of its parts.
use Rattle.std.proofs.Common.{◌≡◌, ℕ, zero, suc, ◌<◌, length, get_or, sym, refl, ap, ◌∙◌, ⊎_elim, arith, length-append}
use Rattle.std.proofs.lemmas.List.{get_or_append_left, get_or_push}
use Rattle.std.proofs.lemmas.Bool.{cases_lt}
use Rattle.records.specs.Trees.{builts, built}

module _ {N T : Type 0} (at : ℕ → N) (grow : N → (ℕ → T) → T) (nil : T) where
  length_builts : (n : ℕ) → length (builts at grow nil n) ≡ n
  unfolding builts
  length_builts zero = refl
  length_builts (suc n) = length-append (builts at grow nil n) _ ∙ omega (arith, length_builts n)

  builts_at : (n k : ℕ) → k < n → get_or (builts at grow nil n) k nil ≡ built at grow nil k
  unfolding builts built
  builts_at zero k h = absurd (omega arith)
  builts_at (suc n) k h =
      ⊎_elim
      (λ lt. get_or_append_left (builts at grow nil n) _ nil k (omega (arith, length_builts n)) ∙ builts_at n k lt)
      (λ ge. let e : n ≡ k = omega arith in get_or_push (builts at grow nil n) _ nil k (length_builts n ∙ e) ∙ ap (built at grow nil) e)
      (cases_lt k n)

  -- where a record depends on its own lower parts only
  pub built_is : (Lower : N → ℕ → Type 0) → ((n : N) (e : ℕ) (f g : ℕ → T) → ((k : ℕ) → k < e → f k ≡ g k) → Lower n e → grow n f ≡ grow n g) → (e : ℕ) (n : N) → n ≡ at e → Lower n e → built at grow nil e ≡ grow n (built at grow nil)
  unfolding built
  built_is Lower same e n is l =
      ap (λ m. grow m (λ k. get_or (builts at grow nil e) k nil)) (sym is) ∙ same n e _ _ (builts_at e) l
