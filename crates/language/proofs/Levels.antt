-- Levels and selectors.
use Rattle.std.proofs.Common.{◌≡◌, ℕ, ◌<◌, Bool, true, false, cond, not, ◌&&◌, eqb, ◌⊎◌, sym, refl, ap, ◌∙◌, subst, inl, inr, ⊎_elim, arith}
use Rattle.std.proofs.lemmas.Bool.{eq-eqb, true≢false, cases_eq}
use Rattle.lattice.specs.Meaning.{Meaning, Below, Laws}
use Rattle.language.specs.Syntax.{Design, Label, Kind, port, register, wire, fixed, looked_up, var, entry}
use Rattle.language.specs.Machine.{Valuation, level, level_by, is_wire_kind, cleared_by, cleared, clear, held}
use Rattle.language.specs.Form.{Formed}
use Rattle.language.specs.Typing.{Fits, Levelled, Typed}

-- a level depends on the value of the selector alone
pub level_same : (d : Design) (ρ σ : Valuation) (v : ℕ) → ((t s : ℕ) → (var d v).label ≡ looked_up t s → ρ s ≡ σ s) → level d ρ v ≡ level d σ v
level_same d ρ σ v h = go (var d v).label h
  where
    go : (l : Label) → ((t s : ℕ) → l ≡ looked_up t s → ρ s ≡ σ s) → level_by d ρ l ≡ level_by d σ l
    go (fixed l) h = refl
    go (looked_up t s) h = ap (entry d t) (h t s refl)

pub label_cases : (l : Label) → ((n : ℕ) × (l ≡ fixed n)) ⊎ ((t : ℕ) × (s : ℕ) × (l ≡ looked_up t s))
label_cases (fixed n) = inl (n, refl)
label_cases (looked_up t s) = inr (t, s, refl)

-- one valuation shows a watcher at w no more than the other: what is visible in ρ has the same value and level in σ
abbrev pub See : Meaning → Design → ℕ → (ℕ → Bool) → Valuation → Valuation → Type 0
See m d w known ρ σ = (v : ℕ) → known v ≡ true → Below m (level d ρ v) w → (σ v ≡ ρ v) × (level d σ v ≡ level d ρ v)

-- with a variable its selector is known
abbrev pub Closed : Design → (ℕ → Bool) → Type 0
Closed d known = (v t s : ℕ) → known v ≡ true → (var d v).label ≡ looked_up t s → known s ≡ true

kind_cases : (k : Kind) → not (is_wire_kind k) ≡ true → (k ≡ port) ⊎ (k ≡ register)
kind_cases port h = inl refl
kind_cases register h = inr refl
kind_cases wire h = absurd (true≢false (sym h))

pub held_closed : (d : Design) → Formed d → Closed d (held d)
held_closed d formed v t s h e =
    let k = formed.selectors v t s e in
    ⊎_elim (λ p. (k.of_port p).1) (λ p. k.of_register p) (kind_cases (var d v).kind h)

-- a cleared variable is 0, and any other keeps its value
pub clear_gone : (d : Design) (σ τ : Valuation) (v : ℕ) → cleared d σ τ v ≡ true → clear d σ τ v ≡ 0
clear_gone d σ τ v h = ap (λ b. cond b 0 (τ v)) h

pub clear_kept : (d : Design) (σ τ : Valuation) (v : ℕ) → cleared d σ τ v ≡ false → clear d σ τ v ≡ τ v
clear_kept d σ τ v h = ap (λ b. cond b 0 (τ v)) h

-- a selector is never cleared
own_stays : (σ τ : Valuation) (s t : ℕ) → cleared_by σ τ s (looked_up t s) ≡ false
own_stays σ τ s t = ap (λ b. not b && not (eqb (σ s) (τ s))) (eq-eqb s s refl)

module _ (d : Design) (formed : Formed d) where
  pub selector_stays : (σ τ : Valuation) (v t s : ℕ) → (var d v).label ≡ looked_up t s → cleared d σ τ s ≡ false
  selector_stays σ τ v t s e =
      ⊎_elim (λ (p : s ≡ v). ap (cleared_by σ τ s) (ap (λ n. (var d n).label) p ∙ e) ∙ own_stays σ τ s t)
      (λ p. ap (cleared_by σ τ s) p.1) (formed.selectors v t s e).own

  pub level_clear : (σ τ : Valuation) (v : ℕ) → level d (clear d σ τ) v ≡ level d τ v
  level_clear σ τ v = level_same d (clear d σ τ) τ v (λ t s e. clear_kept d σ τ s (selector_stays σ τ v t s e))

module _ (m : Meaning) (d : Design) (levelled : Levelled m d) where
  pub level_is_level : (ρ : Valuation) (v : ℕ) → level d ρ v < m.count
  level_is_level ρ v =
      ⊎_elim (λ p. subst (λ l. level_by d ρ l < m.count) (sym p.1) (levelled.labels v p.0 p.1))
      (λ p. subst (λ l. level_by d ρ l < m.count) (sym p.2) (levelled.entries p.0 (ρ p.1))) (label_cases (var d v).label)

module _ (m : Meaning) (d : Design) (laws : Laws m) (formed : Formed d) (typed : Typed m d) where
  -- 12 at work: the selector of a visible variable is that variable, or visible whatever the values are
  pub selector_visible : (w : ℕ) (ρ : Valuation) → Fits d ρ → (v t s : ℕ) → (var d v).label ≡ looked_up t s
      → Below m (level d ρ v) w → (s ≡ v) ⊎ ((σ : Valuation) → Below m (level d σ s) w)
  selector_visible w ρ fits v t s e h = ⊎_elim (λ p. inl p) (λ p. inr (other p)) (formed.selectors v t s e).own
    where
      other : (l : ℕ) × ((var d s).label ≡ fixed l) → (σ : Valuation) → Below m (level d σ s) w
      other p σ =
          subst (λ n. Below m n w) (sym (ap (level_by d σ) p.1))
          (laws.order.transitive p.0 (level d ρ v) w
          (subst (λ n. Below m p.0 n) (sym (ap (level_by d ρ) e)) (typed.reaches v t s p.0 e p.1 (ρ s) (fits s))) h)

-- a variable is its own selector, or has none that is itself
pub own_cases : (d : Design) (v : ℕ) → ((t : ℕ) × ((var d v).label ≡ looked_up t v)) ⊎ ((t s : ℕ) → (var d v).label ≡ looked_up t s → v ≡ s → ⊥)
own_cases d v = go (var d v).label
  where
    go : (l : Label) → ((t : ℕ) × (l ≡ looked_up t v)) ⊎ ((t s : ℕ) → l ≡ looked_up t s → v ≡ s → ⊥)
    go (fixed n) = inr (λ t s e p. let z : ◌≡◌ {A = ℕ} 0 1 = cc in omega arith)
    go (looked_up t s) = ⊎_elim (λ (p : s ≡ v). inl (t, ap (looked_up t) p)) (λ f. inr (λ t' s' e p. f (cc))) (cases_eq s v)
