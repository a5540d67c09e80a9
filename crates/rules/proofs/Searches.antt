-- The first that numbers give, as a search over them finds it, and what a check answers that found it.
use Rattle.std.proofs.Common.{◌≡◌, ℕ, zero, suc, ◌+◌, ◌<◌, ◌≤◌, Bool, MatchBool, length, true, false, cond, List, [], ◌∷◌, slice_index_or, Some, None, Option, Ok, Err, Result, sym, refl, ap, ◌∙◌, subst, ⊎_elim, true≢false, add-one, arith}
use Rattle.std.specs.List.{AllWithin, HoldsAt, range_with_len}
use Rattle.std.proofs.lemmas.Bool.{cases_lt}
use Rattle.std.proofs.lemmas.List.FromFn.{length-range_with_len, get_or-range_with_len}
use Rattle.refusal.specs.declared.Section.{Section}
use Rattle.refusal.specs.declared.Section.TheVariants.{Tables, Variables, Blocks, Commands, Expressions}
use Rattle.refusal.specs.declared.Refusal.{Refusal}
use Rattle.records.specs.Layouts.{File, count_in, or_else, after, section_at}
use Rattle.survey.specs.Sums.{any}
use Rattle.survey.proofs.Counting.{any_some, any_all_false}
use Rattle.rules.specs.declared.Rule.TheVariants.{Range, Use, Width, Assignment, Reading, Selector}
use Rattle.rules.specs.declared.Rule.{Rule}
use Rattle.rules.specs.Rules.{offends}
use Rattle.rules.specs.First.{first, refusal_of, refused_at, refused_in, refused_by, form_refusal, checked}

module _ {A : Type 0} (g : ℕ → Option A) where
  pub first_none : first g 0 ≡ None
  unfolding first
  first_none = refl

  pub first_more : (i : ℕ) → first g i ≡ None → g i ≡ None → first g (i + 1) ≡ None
  unfolding first
  first_more i e h = rw (add-one, e, h) refl

  pub first_found : (x : A) (i n : ℕ) → first g i ≡ None → g i ≡ Some x → i < n → first g n ≡ Some x
  unfolding first
  first_found x i zero before here low = absurd (omega arith)
  first_found x i (suc n) before here low =
      ⊎_elim
      (λ lt. ap (λ o. or_else o (g n)) (first_found x i n before here lt))
      (λ ge. let same : i ≡ n = omega arith in rw (← same, before, here) refl)
      (cases_lt i n)

-- a number that does not offend gives nothing; one that does gives its refusal
pub passes : {A : Type 0} {b : Bool} (x : A) → b ≡ false → cond b (Some x) None ≡ None
passes x e = ap (λ b. cond b (Some x) None) e

pub fails : {A : Type 0} {b : Bool} (x : A) → b ≡ true → cond b (Some x) None ≡ Some x
fails x e = ap (λ b. cond b (Some x) None) e

abbrev is_ok : Result (Unit {0}) Refusal → Bool
is_ok (Ok u) = true
is_ok (Err r) = false

abbrev err_of : Refusal → Result (Unit {0}) Refusal → Refusal
err_of d (Ok u) = d
err_of d (Err r) = r

nothing_found : (o : Option Refusal) (u : Unit {0}) → checked o ≡ Ok u → o ≡ None
nothing_found None u e = refl
nothing_found (Some r) u e = absurd (true≢false (sym (ap is_ok e)))

found : (o : Option Refusal) (r : Refusal) → checked o ≡ Err r → o ≡ Some r
found None r e = absurd (true≢false (ap is_ok e))
found (Some x) r e = ap (λ a. Some (err_of r a)) e

-- ---- a section, record by record

pub none_yet : (f : File) (r : Rule) (s : Section) → first (refused_at f r s) 0 ≡ None
none_yet f r s = first_none (refused_at f r s)

pub passed : (f : File) (r : Rule) (s : Section) (n : ℕ) → first (refused_at f r s) n ≡ None → offends f r s n ≡ false → first (refused_at f r s) (n + 1) ≡ None
passed f r s n before e = first_more (refused_at f r s) n before (passes (refusal_of r s n) e)

pub refused_here : (f : File) (r : Rule) (s : Section) (n : ℕ) → first (refused_at f r s) n ≡ None → n < count_in f s → offends f r s n ≡ true → checked (refused_in f r s) ≡ Err (refusal_of r s n)
refused_here f r s n before low e = ap checked (first_found (refused_at f r s) (refusal_of r s n) n (count_in f s) before (fails (refusal_of r s n) e) low)

-- ---- a file, section by section

abbrev sections : List Section
sections = Tables ∷ Variables ∷ Blocks ∷ Commands ∷ Expressions ∷ []

-- the sections by their places
listed : (i : ℕ) (d : Section) → i < 5 → slice_index_or sections i d ≡ section_at i
listed zero d h = refl
listed (suc zero) d h = refl
listed (suc (suc zero)) d h = refl
listed (suc (suc (suc zero))) d h = refl
listed (suc (suc (suc (suc zero)))) d h = refl
listed (suc (suc (suc (suc (suc i))))) d h = absurd (omega arith)

-- no section below i has a record that breaks rule r
pub record NoneBefore (f : File) (r : Rule) (i : ℕ) : Type 0 where
  pub none : first (λ j. refused_in f r (section_at j)) i ≡ None

pub no_section_yet : (f : File) (r : Rule) → NoneBefore f r 0
no_section_yet f r = record { none = first_none (λ j. refused_in f r (section_at j)) }

pub section_passed : (f : File) (r : Rule) (i : ℕ) (d : Section) (u : Unit {0}) → NoneBefore f r i → i < 5 → checked (refused_in f r (slice_index_or sections i d)) ≡ Ok u → NoneBefore f r (i + 1)
section_passed f r i d u before low e = record { none = first_more (λ j. refused_in f r (section_at j)) i before.none (ap (refused_in f r) (sym (listed i d low)) ∙ nothing_found _ u e) }

pub refused_there : (f : File) (r : Rule) (i : ℕ) (d : Section) (e : Refusal) → NoneBefore f r i → i < 5 → checked (refused_in f r (slice_index_or sections i d)) ≡ Err e → checked (refused_by f r) ≡ Err e
refused_there f r i d e before low is = ap checked (first_found (λ j. refused_in f r (section_at j)) e i 5 before.none (ap (refused_in f r) (sym (listed i d low)) ∙ found _ e is) low)

pub all_passed : (f : File) (r : Rule) (i : ℕ) → NoneBefore f r i → 5 ≤ i → i ≤ 5 → checked (refused_by f r) ≡ Ok tt
all_passed f r i before high low =
    let done : i ≡ 5 = omega arith in
    ap checked (subst (λ n. first (λ j. refused_in f r (section_at j)) n ≡ None) done before.none)

-- the rules are asked in order
pub in_order : (f : File) → checked (form_refusal f) ≡ after (checked (refused_by f Range)) (after (checked (refused_by f Use)) (after (checked (refused_by f Width)) (after (checked (refused_by f Assignment)) (after (checked (refused_by f Reading)) (checked (refused_by f Selector))))))
unfolding first
in_order f = ordered (refused_by f Range) (refused_by f Use) (refused_by f Width) (refused_by f Assignment) (refused_by f Reading) (refused_by f Selector)
  where
    ordered : (a b c d e g : Option Refusal) → checked (or_else (or_else (or_else (or_else (or_else (or_else None a) b) c) d) e) g) ≡ after (checked a) (after (checked b) (after (checked c) (after (checked d) (after (checked e) (checked g)))))
    ordered (Some r) b c d e g = refl
    ordered None (Some r) c d e g = refl
    ordered None None (Some r) d e g = refl
    ordered None None None (Some r) e g = refl
    ordered None None None None (Some r) g = refl
    ordered None None None None None g = refl

-- whether a search over the numbers below n finds one
at : (n k : ℕ) → k < n → slice_index_or (range_with_len 0 n) k 0 ≡ k
at n k lt = get_or-range_with_len 0 n k 0 lt ∙ omega arith

pub any_is : (p : ℕ → Bool) (n : ℕ) (r : Bool)
    → MatchBool r ((k : ℕ) × (k < length (range_with_len 0 n)) × HoldsAt (λ x. true ≡ p x) (range_with_len 0 n) k) (AllWithin (λ x. false ≡ p x) (range_with_len 0 n) 0 (length (range_with_len 0 n)))
    → r ≡ any p n
any_is p n true h =
    let low : h.0 < n = omega (arith, h.1, length-range_with_len 0 n) in
    sym (any_some p n h.0 low (ap p (sym (at n h.0 low)) ∙ sym (h.2 0)))
any_is p n false h = sym (any_all_false p n (λ k lt. ap p (sym (at n k lt)) ∙ sym (h k 0 (omega arith) (omega (arith, lt, length-range_with_len 0 n)))))
