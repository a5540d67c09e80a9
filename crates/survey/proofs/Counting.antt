-- Laws of counting up.
use Rattle.std.proofs.Common.{◌≡◌, ℕ, zero, suc, ◌+◌, ◌<◌, min, Bool, true, false, ◌||◌, List, Decides, replicate, sym, refl, ap, ◌∙◌, subst, ⊎_elim, true≢false, add-zero, add_assoc, add-one, arith}
use Rattle.std.proofs.lemmas.Bool.Decides.{same_from_decides}
use Rattle.std.proofs.lemmas.Bool.{cases_lt, or_parts, or_cases, or_left, or_right, or_from}
use Rattle.survey.specs.Sums.{any, total}
use Rattle.survey.specs.Uses.{Tallies, Adds}
use Rattle.survey.specs.declared.uses.Tally.{Tally}
use Rattle.survey.specs.declared.uses.Tally.TheVariants.{Never}

-- ---- whether one is found

module _ (p : ℕ → Bool) where
  pub any_none : any p 0 ≡ false
  unfolding any
  any_none = refl

  pub any_more : (i : ℕ) → any p (i + 1) ≡ (any p i || p i)
  unfolding any
  any_more i = rw add-one refl

  pub any_some : (n k : ℕ) → k < n → p k ≡ true → any p n ≡ true
  unfolding any
  any_some zero k lt h = absurd (omega arith)
  any_some (suc n) k lt h =
      ⊎_elim
      (λ below. or_left (any p n) (p n) (any_some n k below h))
      (λ ge. let z : k ≡ n = omega arith in or_right (any p n) (p n) (subst (λ j. p j ≡ true) z h))
      (cases_lt k n)

  pub any_found : (n : ℕ) → any p n ≡ true → (k : ℕ) × (k < n) × (p k ≡ true)
  unfolding any
  any_found zero e = absurd (true≢false (sym e))
  any_found (suc n) e =
      ⊎_elim
      (λ h. let r = any_found n h in (r.0, omega (arith, r.1), r.2))
      (λ h. (n, omega arith, h))
      (or_cases (any p n) (p n) e)

  pub any_all_false : (n : ℕ) → ((k : ℕ) → k < n → p k ≡ false) → any p n ≡ false
  unfolding any
  any_all_false zero h = refl
  any_all_false (suc n) h = or_from (any p n) (p n) (any_all_false n (λ k lt. h k (omega arith))) (h n (omega arith))

  pub any_false_at : (n k : ℕ) → any p n ≡ false → k < n → p k ≡ false
  unfolding any
  any_false_at zero k e h = absurd (omega arith)
  any_false_at (suc n) k e h =
      ⊎_elim
      (λ lt. any_false_at n k (or_parts (any p n) (p n) e).0 lt)
      (λ ge. let z : n ≡ k = omega arith in subst (λ m. p m ≡ false) z (or_parts (any p n) (p n) e).1)
      (cases_lt k n)

  -- as a search over the numbers below n decides it
  pub any_decided : (n : ℕ) (r : Bool) → Decides r ((k : ℕ) × (k < n) × (p k ≡ true)) → r ≡ any p n
  any_decided n r h = same_from_decides r (any p n) h (any_found n, λ x. any_some n x.0 x.1 x.2)

-- ---- sums

pub total_none : (g : ℕ → ℕ) → total g 0 ≡ 0
unfolding total
total_none g = refl

pub total_more : (g : ℕ → ℕ) (i : ℕ) → total g (i + 1) ≡ total g i + g i
unfolding total
total_more g i = rw add-one refl

-- ---- tallies

pub adds_none : (xs : List Tally) (g : ℕ → ℕ → ℕ) → Adds xs xs (λ n. total (g n) 0)
adds_none xs g t x k lt = x k lt ∙ ap (λ n. min n 2) (sym (add-zero (t k)) ∙ ap (λ n. t k + n) (sym (total_none (g k))))

pub adds_two : (xs ys zs : List Tally) (g h : ℕ → ℕ) → Adds xs ys g → Adds ys zs h → Adds xs zs (λ k. g k + h k)
adds_two xs ys zs g h p q t x k lt = q (λ j. t j + g j) (p t x) k lt ∙ ap (λ n. min n 2) (add_assoc (t k) (g k) (h k))

pub adds_same : (xs ys : List Tally) (g h : ℕ → ℕ) → ((k : ℕ) → g k ≡ h k) → Adds xs ys g → Adds xs ys h
adds_same xs ys g h e p t x k lt = p t x k lt ∙ ap (λ n. min (t k + n) 2) (e k)

pub adds_more : (xs ys zs : List Tally) (g : ℕ → ℕ → ℕ) (i : ℕ) → Adds xs ys (λ n. total (g n) i) → Adds ys zs (λ n. g n i) → Adds xs zs (λ n. total (g n) (i + 1))
adds_more xs ys zs g i p q = adds_same xs zs _ _ (λ n. sym (total_more (g n) i)) (adds_two xs ys zs (λ n. total (g n) i) (λ n. g n i) p q)

pub tallies_same : (xs : List Tally) (t s : ℕ → ℕ) → ((k : ℕ) → t k ≡ s k) → Tallies xs t → Tallies xs s
tallies_same xs t s e x k lt = x k lt ∙ ap (λ n. min n 2) (e k)

pub tallies_zero : (n : ℕ) → Tallies (replicate n Never) (λ k. 0)
tallies_zero zero k lt = absurd (omega arith)
tallies_zero (suc n) zero lt = refl
tallies_zero (suc n) (suc k) lt = tallies_zero n k (omega arith)
