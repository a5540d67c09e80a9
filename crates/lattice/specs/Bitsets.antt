-- Containment of bits, a ∧ b ≡ a, is an order in which `or` is the join and `and` the meet; and it is containment of owners.
use Rattle.std.proofs.Common.{◌≡◌, ℕ, ◌+◌, ◌/◌, ◌%◌, ◌^◌, ◌<◌, ◌≤◌, min, max, ◌⊎◌, sym, refl, ap, ◌∙◌, inl, inr, ⊎_elim, arith}
use lib.Arith.{bin_ind}
use lib.Bits.{bit_and, bit_or, and_step, or_step, and_comm, or_comm, and_le_r}
use Rattle.std.proofs.lemmas.Nat.{and_shr, shr-shr, mod_below}
use Rattle.std.proofs.lemmas.Bool.{cases_eq}
use Rattle.lattice.specs.Kinds.{owner}

-- b has every bit of a
abbrev pub Within : ℕ → ℕ → Type 0
Within a b = bit_and a b ≡ a

down_half : (a b : ℕ) → Within a b → Within (a / 2) (b / 2)
down_half a b h = omega (arith, and_step a b)

down_digit : (a b : ℕ) → Within a b → min (a % 2) (b % 2) ≡ a % 2
down_digit a b h = omega (arith, and_step a b)

up : (a b : ℕ) → Within (a / 2) (b / 2) → min (a % 2) (b % 2) ≡ a % 2 → Within a b
up a b h k = omega (arith, and_step a b)

pub within_le : (a b : ℕ) → Within a b → a ≤ b
within_le a b h = omega (arith, and_le_r a b)

pub within_antisym : (a b : ℕ) → Within a b → Within b a → a ≡ b
within_antisym a b h k = omega (arith, and_comm a b)

pub within_trans : (a b c : ℕ) → Within a b → Within b c → Within a c
within_trans =
    bin_ind (λ (a : ℕ). (b c : ℕ) → Within a b → Within b c → Within a c) (λ b c h k. refl)
    (λ a ih b c h k.
    up a c (ih (b / 2) (c / 2) (down_half a b h) (down_half b c k)) (omega (arith, down_digit a b h, down_digit b c k)))

or_half : (a b : ℕ) → bit_or a b / 2 ≡ bit_or (a / 2) (b / 2)
or_half a b = omega (arith, or_step a b)

or_digit : (a b : ℕ) → bit_or a b % 2 ≡ max (a % 2) (b % 2)
or_digit a b = omega (arith, or_step a b)

and_half : (a b : ℕ) → bit_and a b / 2 ≡ bit_and (a / 2) (b / 2)
and_half a b = omega (arith, and_step a b)

and_digit : (a b : ℕ) → bit_and a b % 2 ≡ min (a % 2) (b % 2)
and_digit a b = omega (arith, and_step a b)

pub or_left : (a b : ℕ) → Within a (bit_or a b)
or_left =
    bin_ind (λ (a : ℕ). (b : ℕ) → Within a (bit_or a b)) (λ b. refl)
    (λ a ih b.
    up a (bit_or a b) (ap (λ (x : ℕ). bit_and (a / 2) x) (or_half a b) ∙ ih (b / 2)) (omega (arith, or_digit a b)))

pub or_right : (a b : ℕ) → Within b (bit_or a b)
or_right a b = ap (λ (x : ℕ). bit_and b x) (or_comm a b) ∙ or_left b a

pub or_least : (a b t : ℕ) → Within a t → Within b t → Within (bit_or a b) t
or_least =
    bin_ind (λ (a : ℕ). (b t : ℕ) → Within a t → Within b t → Within (bit_or a b) t) (λ b t h k. k)
    (λ a ih b t h k.
    up (bit_or a b) t
    (ap (λ (x : ℕ). bit_and x (t / 2)) (or_half a b) ∙ ih (b / 2) (t / 2) (down_half a t h) (down_half b t k) ∙ sym (or_half a b))
    (omega (arith, or_digit a b, down_digit a t h, down_digit b t k)))

pub and_left : (a b : ℕ) → Within (bit_and a b) a
and_left =
    bin_ind (λ (a : ℕ). (b : ℕ) → Within (bit_and a b) a) (λ b. refl)
    (λ a ih b.
    up (bit_and a b) a
    (ap (λ (x : ℕ). bit_and x (a / 2)) (and_half a b) ∙ ih (b / 2) ∙ sym (and_half a b))
    (omega (arith, and_digit a b)))

pub and_right : (a b : ℕ) → Within (bit_and a b) b
and_right a b = let e = and_comm a b in ap (λ (x : ℕ). bit_and x b) e ∙ and_left b a ∙ sym e

pub and_most : (a b t : ℕ) → Within t a → Within t b → Within t (bit_and a b)
and_most a b t =
    bin_ind (λ (t : ℕ). (a b : ℕ) → Within t a → Within t b → Within t (bit_and a b)) (λ a b h k. refl)
    (λ t ih a b h k.
    up t (bit_and a b)
    (ap (λ (x : ℕ). bit_and (t / 2) x) (and_half a b) ∙ ih (a / 2) (b / 2) (down_half t a h) (down_half t b k))
    (omega (arith, and_digit a b, down_digit t a h, down_digit t b k)))
    t a b

-- ---- the same by owners

digit : (i a b : ℕ) → owner i (bit_and a b) ≡ min (owner i a) (owner i b)
digit i a b = ap (λ (x : ℕ). x % 2) (and_shr a b i) ∙ and_digit (a / 2 ^ i) (b / 2 ^ i)

pub within_owners : (a b : ℕ) → Within a b → (i : ℕ) → owner i a ≡ 1 → owner i b ≡ 1
within_owners a b h i e =
    let d : owner i a ≡ min (owner i a) (owner i b) = ap (owner i) (sym h) ∙ digit i a b in
    let l : owner i b < 2 = mod_below (b / 2 ^ i) 2 (omega arith) in
    omega arith

half_owner : (i a : ℕ) → owner i (a / 2) ≡ owner (1 + i) a
half_owner i a = ap (λ (x : ℕ). x % 2) (shr-shr a 1 i)

first_owner : (a : ℕ) → owner 0 a ≡ a % 2
first_owner a = omega arith

one_or_none : (a : ℕ) → (a % 2 ≡ 1) ⊎ (a % 2 ≡ 0)
one_or_none a =
    let l : a % 2 < 2 = mod_below a 2 (omega arith) in
    ⊎_elim (λ (e : a % 2 ≡ 1). inl e) (λ (n : a % 2 ≡ 1 → ⊥). inr (omega arith)) (cases_eq (a % 2) 1)

pub owners_within : (a b : ℕ) → ((i : ℕ) → owner i a ≡ 1 → owner i b ≡ 1) → Within a b
owners_within =
    bin_ind (λ (a : ℕ). (b : ℕ) → ((i : ℕ) → owner i a ≡ 1 → owner i b ≡ 1) → Within a b) (λ b h. refl)
    (λ a ih b h.
    let first : a % 2 ≡ 1 → b % 2 ≡ 1 = λ e. sym (first_owner b) ∙ h 0 (first_owner a ∙ e) in
    let la : a % 2 < 2 = mod_below a 2 (omega arith) in
    up a b (ih (b / 2) (λ i e. half_owner i b ∙ h (1 + i) (sym (half_owner i a) ∙ e)))
    (⊎_elim (λ (e : a % 2 ≡ 1). omega (arith, first e)) (λ (e : a % 2 ≡ 0). omega arith) (one_or_none a)))
