-- Sets of values that a loop narrows, one variable after another.
use Rattle.std.proofs.Common.{◌≡◌, ℕ, ◌+◌, ◌<◌, ◌≤◌, Bool, true, false, ◌&&◌, List, [], length, get_or, set, length-set, sym, ap, ◌∙◌, subst, ⊎_elim, arith}
use Rattle.std.proofs.lemmas.List.{get_or-set_same, get_or-set_other}
use Rattle.std.proofs.lemmas.Bool.{cases_lt}
use Rattle.paths.specs.declared.values.ValueSets.{ValueSets}
use Rattle.paths.specs.Marks.{sets_of}

module _ (s : ValueSets) (p : ℕ → ℕ → Bool) where
  -- of the variables below v those values of s are left of which p holds; the others are as in s
  pub record Narrowed (t : ValueSets) (v : ℕ) : Type 0 where
    pub whole : length t.marks ≡ 128
    pub done : (u x : ℕ) → u < v → x < 16 → sets_of t u x ≡ (p u x && sets_of s u x)
    pub rest : (u : ℕ) → v ≤ u → get_or t.marks u [] ≡ get_or s.marks u []

  -- what holds of the variables below v, and of v, holds of those below v + 1
  one_more : (P : ℕ → Type 0) (v : ℕ) → P v → ((u : ℕ) → u < v → P u) → (u : ℕ) → u < v + 1 → P u
  one_more P v here below u lt = ⊎_elim (below u) (λ ge. let e : v ≡ u = omega (arith, lt, ge) in subst P e here) (cases_lt u v)

  pub write : (t : ValueSets) (v : ℕ) (row : List Bool) → v < 128 → ((x : ℕ) → x < 16 → get_or row x false ≡ (p v x && sets_of s v x)) → Narrowed t v → Narrowed (record { marks = set t.marks v row }) (v + 1)
  write t v row lt is h = record {
    whole = length-set t.marks v row ∙ h.whole;
    done = λ u x k small. one_more (λ u. get_or (get_or (set t.marks v row) u []) x false ≡ (p u x && sets_of s u x)) v
        (ap (λ r. get_or r x false) (get_or-set_same t.marks v row [] (omega (arith, h.whole))) ∙ is x small)
        (λ u below. ap (λ r. get_or r x false) (get_or-set_other t.marks v u row [] (λ e. omega (arith, e, below))) ∙ h.done u x below small) u k;
    rest = λ u k. get_or-set_other t.marks v u row [] (λ e. omega (arith, e, k)) ∙ h.rest u (omega arith);
  }

  -- of a variable of which p holds throughout, nothing is taken
  pub keep : (t : ValueSets) (v : ℕ) → ((x : ℕ) → p v x ≡ true) → Narrowed t v → Narrowed t (v + 1)
  keep t v all h = record {
    whole = h.whole;
    done = λ u x k small. one_more (λ u. sets_of t u x ≡ (p u x && sets_of s u x)) v
        (ap (λ r. get_or r x false) (h.rest v (omega arith)) ∙ sym (ap (λ b. b && sets_of s v x) (all x)))
        (λ u below. h.done u x below small) u k;
    rest = λ u k. h.rest u (omega arith);
  }
