-- The blocks of a design, by their numbers.
use Rattle.std.proofs.Common.{◌≡◌, ℕ, zero, suc, ◌+◌, ◌<◌, ◌≤◌, Bool, true, false, not, cond, ◌&&◌, Decides, List, [], ◌∷◌, sym, refl, ap, ◌∙◌, subst, inl, inr, ⊎_elim, arith}
use Rattle.std.proofs.lemmas.Bool.{cases_eq, cases_lt, both_ways, or_left, or_right, or_from, and_parts, and_from, false_from_ne_true, false≢true}
use Rattle.lattice.specs.Meaning.{All}
use Rattle.language.specs.Syntax.{Expr, Cmd, together}
use Rattle.language.specs.Form.{Way, always}
use Rattle.language.specs.Offences.{SomeAt, SomeIn}
use Rattle.records.specs.Trees.{body_at, settled_at, bodies, design_of}
use Rattle.records.proofs.Designs.{clocked_is}
use Rattle.refusal.specs.declared.Section.TheVariants.{Blocks}
use Rattle.records.specs.Layouts.{File, count_in}

module _ (f : File) (wanted : ℕ → Bool) where
  pub all_bodies : (P : Cmd → Type 0) (s k : ℕ) → ((b : ℕ) → s ≤ b → b < s + k → wanted b ≡ true → P (body_at f b)) → All P (bodies f wanted s k)
  all_bodies P s zero h = tt
  all_bodies P s (suc k) h = go (wanted s) refl (all_bodies P (s + 1) k (λ b i j. h b (omega arith) (omega arith)))
    where
      go : (w : Bool) → wanted s ≡ w → All P (bodies f wanted (s + 1) k) → All P (cond w (body_at f s ∷ bodies f wanted (s + 1) k) (bodies f wanted (s + 1) k))
      go true e rest = (h s (omega arith) (omega arith) e, rest)
      go false e rest = rest

  -- b is a later block than s, unless it is s
  later : (s b : ℕ) → s ≤ b → wanted b ≡ true → wanted s ≡ false → s + 1 ≤ b
  later s b i e n = ⊎_elim (λ (p : s ≡ b). absurd (both_ways (wanted b) (sym (ap wanted p) ∙ n) e)) (λ (p : s ≡ b → ⊥). ⊎_elim (λ (q : s < b). omega arith) (λ (q : b ≤ s). absurd (p (omega arith))) (cases_lt s b)) (cases_eq s b)

  pub some_bodies : (A : List Way → ℕ → Expr → ℕ → Type 0) (s k b : ℕ) → s ≤ b → b < s + k → wanted b ≡ true → SomeAt A [] (body_at f b) → SomeIn A (bodies f wanted s k)
  some_bodies A s zero b i j e x = absurd (omega arith)
  some_bodies A s (suc k) b i j e x = go (wanted s) refl (λ h. some_bodies A (s + 1) k b h (omega arith) e x)
    where
      go : (w : Bool) → wanted s ≡ w → (s + 1 ≤ b → SomeIn A (bodies f wanted (s + 1) k))
          → SomeIn A (cond w (body_at f s ∷ bodies f wanted (s + 1) k) (bodies f wanted (s + 1) k))
      go true w rest =
          ⊎_elim (λ (p : s < b). inr (rest (omega arith))) (λ (p : b ≤ s). let q : b ≡ s = omega arith in inl (subst (λ n. SomeAt A [] (body_at f n)) q x)) (cases_lt s b)
      go false w rest = rest (later s b i e w)

  pub always_none : (v s k : ℕ) → ((b : ℕ) → s ≤ b → b < s + k → wanted b ≡ true → always (body_at f b) v ≡ false) → always (together (bodies f wanted s k)) v ≡ false
  always_none v s zero h = refl
  always_none v s (suc k) h = go (wanted s) refl (always_none v (s + 1) k (λ b i j. h b (omega arith) (omega arith)))
    where
      go : (w : Bool) → wanted s ≡ w → always (together (bodies f wanted (s + 1) k)) v ≡ false
          → always (together (cond w (body_at f s ∷ bodies f wanted (s + 1) k) (bodies f wanted (s + 1) k))) v ≡ false
      go true e rest = or_from (always (body_at f s) v) (always (together (bodies f wanted (s + 1) k)) v) (h s (omega arith) (omega arith) e) rest
      go false e rest = rest

  pub always_some : (v s k b : ℕ) → s ≤ b → b < s + k → wanted b ≡ true → always (body_at f b) v ≡ true → always (together (bodies f wanted s k)) v ≡ true
  always_some v s zero b i j e x = absurd (omega arith)
  always_some v s (suc k) b i j e x = go (wanted s) refl (λ h. always_some v (s + 1) k b h (omega arith) e x)
    where
      go : (w : Bool) → wanted s ≡ w → (s + 1 ≤ b → always (together (bodies f wanted (s + 1) k)) v ≡ true)
          → always (together (cond w (body_at f s ∷ bodies f wanted (s + 1) k) (bodies f wanted (s + 1) k))) v ≡ true
      go true w rest =
          ⊎_elim (λ (p : s < b). or_right (always (body_at f s) v) (always (together (bodies f wanted (s + 1) k)) v) (rest (omega arith)))
          (λ (p : b ≤ s). let q : b ≡ s = omega arith in or_left (always (body_at f s) v) (always (together (bodies f wanted (s + 1) k)) v) (subst (λ n. always (body_at f n) v ≡ true) q x)) (cases_lt s b)
      go false w rest = rest (later s b i e w)

-- the clocked blocks assign v on every path where one of them does
pub always_by : (f : File) (v : ℕ) (r : Bool) → Decides r ((b : ℕ) × (b < count_in f Blocks) × ((not (settled_at f b) && always (body_at f b) v) ≡ true)) → r ≡ always (together (design_of f).clocked) v
always_by f v true h =
    let x = h.0 refl in
    let both = and_parts (not (settled_at f x.0)) (always (body_at f x.0) v) x.2 in
    sym (ap (λ z. always (together z) v) (clocked_is f)
    ∙ always_some f (λ b. not (settled_at f b)) v 0 (count_in f Blocks) x.0 (omega arith) (omega (arith, x.1)) both.0 both.1)
always_by f v false h =
    sym (ap (λ z. always (together z) v) (clocked_is f)
    ∙ always_none f (λ b. not (settled_at f b)) v 0 (count_in f Blocks) (λ b i j e.
    false_from_ne_true (always (body_at f b) v) (λ a. false≢true (h.1 (b, omega (arith, j), and_from (not (settled_at f b)) (always (body_at f b) v) e a)))))
