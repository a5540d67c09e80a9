-- What blocks leave, met by a loop that carries out one after the other.
use Rattle.std.proofs.Common.{◌≡◌, ℕ, suc, ◌+◌, ◌-◌, ◌<◌, ◌≤◌, Bool, true, false, cond, not, ◌&&◌, ◌||◌, List, ◌∷◌, is_some, Some, None, Option, unwrap_or, sym, refl, ap, ◌∙◌, true≢false, arith}
use Rattle.std.specs.Option.{option_or}
use Rattle.refusal.specs.declared.Section.TheVariants.{Blocks}
use Rattle.language.specs.Syntax.{Cmd, together}
use Rattle.language.specs.Machine.{Valuation, written, after, settle, gets}
use Rattle.language.proofs.Commands.{not_written}
use Rattle.language.proofs.Settle.{after_kept}
use Rattle.records.specs.Layouts.{File, count_in}
use Rattle.records.specs.Trees.{settled_at, body_at, bodies, design_of}
use Rattle.records.proofs.Designs.{settled_is, clocked_is}
use Rattle.variables.specs.declared.values.Values.{Values}
use Rattle.variables.specs.Variables.{value_of, Holds}
use Rattle.variables.proofs.Laws.{value_past, value_all}
use Rattle.machine.proofs.Targets.{Low, low_body}

-- ---- numbers past the last variable

pub after_past : (ρ : Valuation) (xs : Values) (c : Cmd) → Low c → (v : ℕ) → 128 ≤ v → after ρ (value_of xs) c v ≡ 0
after_past ρ xs c low v ge = after_kept ρ (value_of xs) c v (not_written ρ v c (low v ge)) ∙ value_past xs v ge

-- ---- one block

either_value : (o p : Option ℕ) (x : ℕ) → unwrap_or o (unwrap_or p x) ≡ unwrap_or (option_or o p) x
either_value None p x = refl
either_value (Some y) p x = refl

clock_next : (t : Bool) (c : Cmd) (cs : List Cmd) (ρ : Valuation) (xs ys : Values) → Holds ys (λ v. cond t (after ρ (value_of xs) c v) (value_of xs v)) → (v : ℕ) → v < 128 → after ρ (value_of ys) (together cs) v ≡ after ρ (value_of xs) (together (cond t (c ∷ cs) cs)) v
clock_next true c cs ρ xs ys h v lt = ap (unwrap_or (written ρ v (together cs))) (h v lt) ∙ either_value (written ρ v (together cs)) (written ρ v c) (value_of xs v)
clock_next false c cs ρ xs ys h v lt = ap (unwrap_or (written ρ v (together cs))) (h v lt)

all_next : (t : Bool) (c : Cmd) (xs ys : Values) → Low c → Holds ys (λ v. cond t (after (value_of xs) (value_of xs) c v) (value_of xs v)) → (v : ℕ) → value_of ys v ≡ cond t (after (value_of xs) (value_of xs) c v) (value_of xs v)
all_next true c xs ys low h = value_all ys _ (after_past (value_of xs) xs c low) h
all_next false c xs ys low h = value_all ys _ (value_past xs) h

module _ (c : Cmd) (cs : List Cmd) (ρ σ : Valuation) (v : ℕ) where
  settle_next : (t : Bool) → ((u : ℕ) → σ u ≡ cond t (after ρ ρ c u) (ρ u)) → settle σ cs v ≡ settle ρ (cond t (c ∷ cs) cs) v
  settle_next true all = λ i. settle (λ u. all u i) cs v
  settle_next false all = λ i. settle (λ u. all u i) cs v

  gets_next : (t : Bool) → ((u : ℕ) → σ u ≡ cond t (after ρ ρ c u) (ρ u)) → (t && is_some (written ρ v c)) ≡ false → gets σ cs v ≡ gets ρ (cond t (c ∷ cs) cs) v
  gets_next true all e = (λ i. gets (λ u. all u i) cs v) ∙ sym (ap (λ b. b || gets (after ρ ρ c) cs v) e)
  gets_next false all e = λ i. gets (λ u. all u i) cs v

gets_here : (t : Bool) (c : Cmd) (cs : List Cmd) (ρ : Valuation) (v : ℕ) → (t && is_some (written ρ v c)) ≡ true → gets ρ (cond t (c ∷ cs) cs) v ≡ true
gets_here true c cs ρ v e = ap (λ b. b || gets (after ρ ρ c) cs v) e
gets_here false c cs ρ v e = absurd (true≢false (sym e))

-- ---- the blocks from b on, of n

module _ (f : File) where
  abbrev pub rest : (ℕ → Bool) → ℕ → List Cmd
  rest wanted b = bodies f wanted b (count_in f Blocks - b)

  rest_more : (wanted : ℕ → Bool) (b : ℕ) → b < count_in f Blocks → cond (wanted b) (body_at f b ∷ rest wanted (b + 1)) (rest wanted (b + 1)) ≡ rest wanted b
  rest_more wanted b lt =
      let e : suc (count_in f Blocks - (b + 1)) ≡ count_in f Blocks - b = omega arith in
      ap (bodies f wanted b) e

  rest_all : (wanted : ℕ → Bool) → rest wanted 0 ≡ bodies f wanted 0 (count_in f Blocks)
  rest_all wanted =
      let z : count_in f Blocks - 0 ≡ count_in f Blocks = omega arith in
      ap (bodies f wanted 0) z

  abbrev pub clocks : ℕ → List Cmd
  clocks b = rest (λ k. not (settled_at f k)) b

  abbrev pub settles : ℕ → List Cmd
  settles b = rest (settled_at f) b

  pub clocks_all : clocks 0 ≡ (design_of f).clocked
  clocks_all = rest_all (λ k. not (settled_at f k)) ∙ sym (clocked_is f)

  pub settles_all : settles 0 ≡ (design_of f).settled
  settles_all = rest_all (settled_at f) ∙ sym (settled_is f)

  pub clock_more : (ρ : Valuation) (xs ys : Values) (b : ℕ) → b < count_in f Blocks → Holds ys (λ v. cond (not (settled_at f b)) (after ρ (value_of xs) (body_at f b) v) (value_of xs v)) → (v : ℕ) → v < 128 → after ρ (value_of ys) (together (clocks (b + 1))) v ≡ after ρ (value_of xs) (together (clocks b)) v
  clock_more ρ xs ys b lt h v low =
      clock_next (not (settled_at f b)) (body_at f b) (clocks (b + 1)) ρ xs ys h v low ∙ ap (λ cs. after ρ (value_of xs) (together cs) v) (rest_more (λ k. not (settled_at f k)) b lt)

  -- the next block leaves ys of xs
  abbrev pub Settles : Values → Values → ℕ → Type 0
  Settles xs ys b = Holds ys (λ v. cond (settled_at f b) (after (value_of xs) (value_of xs) (body_at f b) v) (value_of xs v))

  -- the settled blocks from b on leave τ
  abbrev pub Leaves : Values → ℕ → Valuation → Type 0
  Leaves xs b τ = (v : ℕ) → settle (value_of xs) (settles b) v ≡ τ v

  pub settle_more : (xs ys : Values) (b : ℕ) (τ : Valuation) → b < count_in f Blocks → Settles xs ys b → Leaves xs b τ → Leaves ys (b + 1) τ
  settle_more xs ys b τ lt h p v =
      settle_next (body_at f b) (settles (b + 1)) (value_of xs) (value_of ys) v (settled_at f b) (all_next (settled_at f b) (body_at f b) xs ys (low_body f b) h) ∙ ap (λ cs. settle (value_of xs) cs v) (rest_more (settled_at f) b lt) ∙ p v

  abbrev writes_in : Values → ℕ → ℕ → Bool
  writes_in xs b v = settled_at f b && is_some (written (value_of xs) v (body_at f b))

  pub gives_more : (xs ys : Values) (b v : ℕ) (t : Bool) → b < count_in f Blocks → Settles xs ys b → writes_in xs b v ≡ false → gets (value_of xs) (settles b) v ≡ t → gets (value_of ys) (settles (b + 1)) v ≡ t
  gives_more xs ys b v t lt h e p =
      gets_next (body_at f b) (settles (b + 1)) (value_of xs) (value_of ys) v (settled_at f b) (all_next (settled_at f b) (body_at f b) xs ys (low_body f b) h) e ∙ ap (λ cs. gets (value_of xs) cs v) (rest_more (settled_at f) b lt) ∙ p

  pub gives_here : (xs : Values) (b v : ℕ) (t : Bool) → b < count_in f Blocks → writes_in xs b v ≡ true → gets (value_of xs) (settles b) v ≡ t → true ≡ t
  gives_here xs b v t lt e p =
      sym (gets_here (settled_at f b) (body_at f b) (settles (b + 1)) (value_of xs) v e) ∙ ap (λ cs. gets (value_of xs) cs v) (rest_more (settled_at f) b lt) ∙ p
