-- Entries of a table, and values of variables, written out.
use Rattle.std.proofs.Common.{◌≡◌, ℕ, zero, suc, ◌<◌, Bool, true, ◌&&◌, ltb, List, [], ◌∷◌, get_or, lit<}
use Rattle.std.proofs.lemmas.Bool.{ltb-true, and_parts}
use Rattle.language.specs.Machine.{Valuation}

-- is every entry a level of the chain of two?
abbrev pub all_small : List ℕ → Bool
all_small [] = true
all_small (x ∷ xs) = ltb x 2 && all_small xs

pub small_entry : (xs : List ℕ) → all_small xs ≡ true → (i : ℕ) → get_or xs i 0 < 2
small_entry [] h i = lit< tt
small_entry (x ∷ xs) h zero = ltb-true x 2 (and_parts (ltb x 2) (all_small xs) h).0
small_entry (x ∷ xs) h (suc i) = small_entry xs (and_parts (ltb x 2) (all_small xs) h).1 i

-- variable 0 has the value x, and the others have 0
abbrev pub first_is : ℕ → Valuation
first_is x v = get_or (x ∷ []) v 0
