-- Laws of sets and of values of variables.
use Rattle.std.proofs.Common.{◌≡◌, ℕ, ◌<◌, ◌≤◌, false, ◌&&◌, ◌||◌, get_or, replicate, sym, refl, ap, ◌∙◌, ⊎_elim, arith}
use Rattle.std.proofs.lemmas.Bool.{cases_lt, lt-ltb, le-ltb, eq-eqb, ne_eqb, cond-true, cond-false}
use Rattle.std.proofs.lemmas.List.{get_or-replicate}
use Rattle.language.specs.Machine.{Valuation, put}
use Rattle.variables.specs.declared.sets.VariableSet.{VariableSet}
use Rattle.variables.specs.declared.values.Values.{Values}
use Rattle.variables.specs.Variables.{has, value_of, Holds}

-- ---- sets

-- a number that names no variable belongs to no set
pub has_past : (s : VariableSet) (v : ℕ) → 128 ≤ v → has s v ≡ false
has_past s v ge = ap (λ t. t && get_or s.marks v false) (le-ltb v 128 ge)

-- the mark of a variable
pub has_low : (s : VariableSet) (v : ℕ) → v < 128 → has s v ≡ get_or s.marks v false
has_low s v lt = ap (λ t. t && get_or s.marks v false) (lt-ltb v 128 lt)

pub no_marks : (s : VariableSet) → s.marks ≡ replicate 128 false → (v : ℕ) → has s v ≡ false
no_marks s e v =
    ⊎_elim
    (λ lt. has_low s v lt ∙ ap (λ xs. get_or xs v false) e ∙ get_or-replicate 128 v false false lt)
    (has_past s v)
    (cases_lt v 128)

-- sets whose marks are those of two others together hold for every number what those hold
pub either_all : (r s t : VariableSet) → ((v : ℕ) → v < 128 → get_or r.marks v false ≡ (get_or s.marks v false || get_or t.marks v false)) → (v : ℕ) → has r v ≡ (has s v || has t v)
either_all r s t each v =
    ⊎_elim
    (λ lt. has_low r v lt ∙ each v lt ∙ sym (λ i. has_low s v lt i || has_low t v lt i))
    (λ ge. has_past r v ge ∙ sym (λ i. has_past s v ge i || has_past t v ge i))
    (cases_lt v 128)

pub both_all : (r s t : VariableSet) → ((v : ℕ) → v < 128 → get_or r.marks v false ≡ (get_or s.marks v false && get_or t.marks v false)) → (v : ℕ) → has r v ≡ (has s v && has t v)
both_all r s t each v =
    ⊎_elim
    (λ lt. has_low r v lt ∙ each v lt ∙ sym (λ i. has_low s v lt i && has_low t v lt i))
    (λ ge. has_past r v ge ∙ sym (λ i. has_past s v ge i && has_past t v ge i))
    (cases_lt v 128)

-- ---- values

-- a number that names no variable has the value 0
pub value_past : (h : Values) (v : ℕ) → 128 ≤ v → value_of h v ≡ 0
value_past h v ge = cond-false _ _ _ (le-ltb v 128 ge)

-- the value kept for a variable
pub value_low : (h : Values) (v : ℕ) → v < 128 → value_of h v ≡ get_or h.values v 0
value_low h v lt = cond-true _ _ _ (lt-ltb v 128 lt)

-- values that are those of σ for each variable are so for every number, where σ has 0 past the last variable
pub value_all : (h : Values) (σ : Valuation) → ((v : ℕ) → 128 ≤ v → σ v ≡ 0) → Holds h σ → (v : ℕ) → value_of h v ≡ σ v
value_all h σ past low v = ⊎_elim (low v) (λ ge. value_past h v ge ∙ sym (past v ge)) (cases_lt v 128)

pub zero_values : (h : Values) → h.values ≡ replicate 128 0 → (v : ℕ) → value_of h v ≡ 0
zero_values h e v =
    ⊎_elim
    (λ lt. value_low h v lt ∙ ap (λ xs. get_or xs v 0) e ∙ get_or-replicate 128 v 0 0 lt)
    (value_past h v)
    (cases_lt v 128)

-- what is put at a variable is there, and the others stay
pub set_same : (h : Values) (ρ : Valuation) (v x : ℕ) → v < 128 → Holds h (put ρ v x) → value_of h v ≡ x
set_same h ρ v x lt holds = holds v lt ∙ cond-true _ _ _ (eq-eqb v v refl)

pub set_other : (h : Values) (ρ : Valuation) (v x u : ℕ) → u < 128 → (v ≡ u → ⊥) → Holds h (put ρ v x) → value_of h u ≡ ρ u
set_other h ρ v x u lt ne holds = holds u lt ∙ cond-false _ _ _ (ne_eqb v u ne)

-- what is put at a variable is put there for every number
pub set_all : (g h : Values) (v x : ℕ) → v < 128 → Holds h (put (value_of g) v x) → (u : ℕ) → value_of h u ≡ put (value_of g) v x u
set_all g h v x lt = value_all h (put (value_of g) v x) (λ u ge. cond-false _ _ _ (ne_eqb v u (λ e. omega (arith, lt, ge, e))) ∙ value_past g u ge)
