-- What holds of every element of a list.
use Rattle.std.proofs.Common.{◌≡◌, ℕ, zero, suc, ◌<◌, Bool, true, Decides, List, [], ◌∷◌, ◌++◌, map, length, get_or, refl, arith}
use Rattle.std.proofs.lemmas.Bool.{and_parts, and_from}
use Rattle.std.specs.List.{list_all}
use Rattle.lattice.specs.Meaning.{All}

pub all_left : {A : Type 0} (P : A → Type 0) (xs ys : List A) → All P (xs ++ ys) → All P xs
all_left P [] ys h = tt
all_left P (x ∷ xs) ys h = (h.0, all_left P xs ys h.1)

pub all_right : {A : Type 0} (P : A → Type 0) (xs ys : List A) → All P (xs ++ ys) → All P ys
all_right P [] ys h = h
all_right P (x ∷ xs) ys h = all_right P xs ys h.1

pub all_append : {A : Type 0} (P : A → Type 0) (xs ys : List A) → All P xs → All P ys → All P (xs ++ ys)
all_append P [] ys h k = k
all_append P (x ∷ xs) ys h k = (h.0, all_append P xs ys h.1 k)

pub all_weaker : {A : Type 0} (P Q : A → Type 0) → ((x : A) → P x → Q x) → (xs : List A) → All P xs → All Q xs
all_weaker P Q f [] h = tt
all_weaker P Q f (x ∷ xs) h = (f x h.0, all_weaker P Q f xs h.1)

-- what holds of the images, and what holds of each element's image
pub to_images : {A : Type 0} (P : ℕ → Type 0) (f : A → ℕ) (xs : List A) → All (λ x. P (f x)) xs → All P (map f xs)
to_images P f [] h = tt
to_images P f (x ∷ xs) h = (h.0, to_images P f xs h.1)

pub of_images : {A : Type 0} (P : ℕ → Type 0) (f : A → ℕ) (xs : List A) → All P (map f xs) → All (λ x. P (f x)) xs
of_images P f [] h = tt
of_images P f (x ∷ xs) h = (h.0, of_images P f xs h.1)

-- at each place
pub all_place : {A : Type 0} (P : A → Type 0) (d : A) (xs : List A) (k : ℕ) → k < length xs → All P xs → P (get_or xs k d)
all_place P d [] k l h = absurd (omega arith)
all_place P d (x ∷ xs) zero l h = h.0
all_place P d (x ∷ xs) (suc k) l h = all_place P d xs k (omega arith) h.1

-- what a test tells of each
pub all_decided : {A : Type 0} (p : A → Bool) (xs : List A) → Decides (list_all p xs) (All (λ x. p x ≡ true) xs)
all_decided p [] = (λ e. tt, λ h. refl)
all_decided p (x ∷ xs) =
    let rest = all_decided p xs in (
      λ e. let both = and_parts (p x) (list_all p xs) e in (both.0, rest.0 both.1),
      λ h. and_from (p x) (list_all p xs) h.0 (rest.1 h.1),
    )
