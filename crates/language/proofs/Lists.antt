-- Membership in a list of variables, and valuations changed at one variable.
use Rattle.std.proofs.Common.{◌≡◌, ℕ, cond, ◌⊎◌, List, [], ◌∷◌, ◌++◌, refl, ap, subst, inl, inr, ⊎_elim}
use Rattle.std.proofs.lemmas.Bool.{eq-eqb, ne_eqb}
use Rattle.lattice.specs.Meaning.{All}
use Rattle.language.specs.Machine.{Valuation, put}

abbrev pub Mem : ℕ → List ℕ → Type 0
Mem v [] = ⊥
Mem v (u ∷ vs) = (u ≡ v) ⊎ Mem v vs

pub all_from : (P : ℕ → Type 0) (vs : List ℕ) → ((v : ℕ) → Mem v vs → P v) → All P vs
all_from P [] f = tt
all_from P (v ∷ vs) f = (f v (inl refl), all_from P vs (λ u h. f u (inr h)))

pub all_at : (P : ℕ → Type 0) (vs : List ℕ) (v : ℕ) → All P vs → Mem v vs → P v
all_at P [] v h k = absurd k
all_at P (u ∷ vs) v h (inl e) = subst P e h.0
all_at P (u ∷ vs) v h (inr k) = all_at P vs v h.1 k

pub mem_left : (v : ℕ) (xs ys : List ℕ) → Mem v xs → Mem v (xs ++ ys)
mem_left v [] ys h = absurd h
mem_left v (x ∷ xs) ys (inl e) = inl e
mem_left v (x ∷ xs) ys (inr h) = inr (mem_left v xs ys h)

pub mem_right : (v : ℕ) (xs ys : List ℕ) → Mem v ys → Mem v (xs ++ ys)
mem_right v [] ys h = h
mem_right v (x ∷ xs) ys h = inr (mem_right v xs ys h)

pub mem_split : (v : ℕ) (xs ys : List ℕ) → Mem v (xs ++ ys) → Mem v xs ⊎ Mem v ys
mem_split v [] ys h = inr h
mem_split v (x ∷ xs) ys (inl e) = inl (inl e)
mem_split v (x ∷ xs) ys (inr h) = ⊎_elim (λ k. inl (inr k)) (λ k. inr k) (mem_split v xs ys h)

-- ---- one variable changed

pub put_same : (ρ : Valuation) (u x : ℕ) → put ρ u x u ≡ x
put_same ρ u x = ap (λ b. cond b x (ρ u)) (eq-eqb u u refl)

pub put_other : (ρ : Valuation) (u x v : ℕ) → (u ≡ v → ⊥) → put ρ u x v ≡ ρ v
put_other ρ u x v h = ap (λ b. cond b x (ρ v)) (ne_eqb u v h)
