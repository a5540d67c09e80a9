-- What `all`, `any` and `find` over the numbers below a count say. Each takes the call's clause `ran`, and what the closure's true and false say.
use Rattle.std.proofs.Common.{◌≡◌, ℕ, ◌<◌, ◌≤◌, Bool, true, false, List, Option, Some, None, MatchOption, length, Decides, refl, subst, ◌∙◌, zero-add, arith}
use Rattle.std.proofs.lemmas.Iterator.{YieldsList-from_range, cases_from_all, cases_from_any}
use Rattle.std.proofs.lemmas.List.FromFn.{length-range_with_len, get_or-range_with_len}
use Rattle.std.proofs.lemmas.Bool.{false≢true}
use Rattle.std.specs.Bool.{MatchBool}
use Rattle.std.specs.List.{AllWithin, HoldsAt, FoldsTo, range_with_len}
use Rattle.std.specs.Fn.{Called}
use Rattle.std.specs.Iterator.{YieldsThen}
use Rattle.std.specs.declared.ops.Range.{Range}
use Rattle.std.proofs.iter.Yields.{nat_range_steps}
use denote.Param.Members.{Mut}

module _ (n : ℕ) (P : ℕ → Type 0) where
  -- what holds at each place of the numbers below n holds of each number, and so at one
  each_of : AllWithin P (range_with_len 0 n) 0 (length (range_with_len 0 n)) → (k : ℕ) → k < n → P k
  each_of all k l = subst P (get_or-range_with_len 0 n k 0 l ∙ zero-add k) (all k 0 (omega arith) (omega (arith, length-range_with_len 0 n)))

  one_of : (k : ℕ) × (k < length (range_with_len 0 n)) × HoldsAt P (range_with_len 0 n) k → (k : ℕ) × (k < n) × P k
  one_of some =
      let l : some.0 < n = omega (arith, length-range_with_len 0 n) in
      (some.0, l, subst P (get_or-range_with_len 0 n some.0 0 l ∙ zero-add some.0) (some.2 0))

pub all_below : {F : Type 0} {g : Mut F (ℕ × Unit {0}) Bool} (n : ℕ) (u : Range ℕ) (f : F) (r : Bool) (P : ℕ → Type 0)
    → (xs : List ℕ) × (o : Option ℕ) × (j : F) × YieldsThen nat_range_steps (record { start = 0; end = n }) xs o u × FoldsTo (λ p x q. Called g p (x, tt) true q) f xs j × MatchOption o (r ≡ true) (λ x. (r ≡ false) × ((h : F) × Called g j (x, tt) false h))
    → ((x : ℕ) (q : F) → Called g f (x, tt) true q → (q ≡ f) × P x) → ((x : ℕ) (q : F) → Called g f (x, tt) false q → P x → ⊥)
    → Decides r ((k : ℕ) → k < n → P k)
all_below n u f r P d yes' no' = by r (cases_from_all u f r P (λ x. P x → ⊥) d (YieldsList-from_range 0 n n refl (omega arith)) yes' no')
  where
    by : (r : Bool) → MatchBool r (AllWithin P (range_with_len 0 n) 0 (length (range_with_len 0 n))) ((k : ℕ) × (k < length (range_with_len 0 n)) × HoldsAt (λ x. P x → ⊥) (range_with_len 0 n) k)
        → Decides r ((k : ℕ) → k < n → P k)
    by true all = (λ e. each_of n P all, λ h. refl)
    by false some = (λ e. absurd (false≢true e), λ all. let q = one_of n (λ x. P x → ⊥) some in absurd (q.2 (all q.0 q.1)))

pub any_below : {F : Type 0} {g : Mut F (ℕ × Unit {0}) Bool} (n : ℕ) (u : Range ℕ) (f : F) (r : Bool) (P : ℕ → Type 0)
    → (xs : List ℕ) × (o : Option ℕ) × (j : F) × YieldsThen nat_range_steps (record { start = 0; end = n }) xs o u × FoldsTo (λ p x q. Called g p (x, tt) false q) f xs j × MatchOption o (r ≡ false) (λ x. (r ≡ true) × ((h : F) × Called g j (x, tt) true h))
    → ((x : ℕ) (q : F) → Called g f (x, tt) true q → P x) → ((x : ℕ) (q : F) → Called g f (x, tt) false q → (q ≡ f) × (P x → ⊥))
    → Decides r ((k : ℕ) × (k < n) × P k)
any_below n u f r P d yes' no' = by r (cases_from_any u f r P (λ x. P x → ⊥) d (YieldsList-from_range 0 n n refl (omega arith)) yes' no')
  where
    by : (r : Bool) → MatchBool r ((k : ℕ) × (k < length (range_with_len 0 n)) × HoldsAt P (range_with_len 0 n) k) (AllWithin (λ x. P x → ⊥) (range_with_len 0 n) 0 (length (range_with_len 0 n)))
        → Decides r ((k : ℕ) × (k < n) × P k)
    by true some = (λ e. one_of n P some, λ h. refl)
    by false all = (λ e. absurd (false≢true e), λ h. absurd (each_of n (λ x. P x → ⊥) all h.0 h.1 h.2))

-- what `first_from_Range` says, where P holds of no number outside
pub found_below : (n : ℕ) (P : ℕ → Type 0) → ((x : ℕ) → P x → x < n) → (r : Option ℕ)
    → MatchOption r ((k : ℕ) → 0 ≤ k → k < n → P k → ⊥) (λ i. (0 ≤ i) × (i < n) × P i × ((k : ℕ) → 0 ≤ k → k < i → P k → ⊥))
    → MatchOption r ((x : ℕ) → P x → ⊥) P
found_below n P inside None none = λ x h. none x (omega arith) (inside x h) h
found_below n P inside (Some i) h = h.2
