-- Each call keeps two states alike.
use Rattle.std.proofs.Common.{◌≡◌, ℕ, ◌^◌, ◌<◌, Bool, true, false, not, ◌&&◌, eqb, ◌⊎◌, Some, None, Option, sym, refl, ap, ◌∙◌, subst, ap₂, inl, inr, ⊎_elim, pow_pos}
use mathlib.Core.Path.{fun_ext}
use Rattle.std.proofs.lemmas.Bool.{eq-eqb, eqb-true, cases_Bool, cases_eq, both_ways, cond_both, and_cases, and_right, not-false}
use Rattle.lattice.specs.Meaning.{Meaning, Below, Laws}
use Rattle.language.specs.Syntax.{Cmd, Design, Label, Kind, port, register, wire, fixed, looked_up, var, together}
use Rattle.language.specs.Machine.{Valuation, put, written, after, values, level, cleared_by, cleared, clear, opening, opening_by, clock, step, inside, held}
use Rattle.language.specs.Form.{always, Reads, Clocks, Formed}
use Rattle.language.specs.Typing.{Fits, Flows, Stays, Anything, Typed}
use Rattle.language.proofs.Lists.{put_same, put_other}
use Rattle.language.proofs.Walks.{every_weaker, each_together}
use Rattle.language.proofs.Commands.{none≢some, is_written}
use Rattle.language.proofs.Levels.{See, level_same, held_closed, clear_gone, clear_kept, selector_stays, level_clear, selector_visible, own_cases}
use Rattle.language.proofs.Writes.{Sound, same_write, still_written}
use Rattle.language.proofs.Settle.{after_kept, after_new, after_fits, settle_kept, settle_fits, settle_see}

-- the clocked blocks, all together
abbrev pub ticks : Design → Cmd
ticks d = together d.clocked

-- ---- values fit

pub put_fits : (d : Design) (σ : Valuation) (u x : ℕ) → Fits d σ → x < 2 ^ (var d u).width → Fits d (put σ u x)
put_fits d σ u x fits h v =
    cond_both (eqb u v) x (σ v) (λ n. n < 2 ^ (var d v).width) (λ p. subst (λ n. x < 2 ^ (var d n).width) (eqb-true u v p) h) (λ p. fits v)

pub clear_fits : (d : Design) (σ τ : Valuation) → Fits d τ → Fits d (clear d σ τ)
clear_fits d σ τ fits v =
    ⊎_elim (λ p. subst (λ n. n < 2 ^ (var d v).width) (sym (clear_gone d σ τ v p)) (pow_pos (var d v).width))
    (λ p. subst (λ n. n < 2 ^ (var d v).width) (sym (clear_kept d σ τ v p)) (fits v)) (cases_Bool (cleared d σ τ v))

pub opening_fits : (d : Design) → Formed d → Fits d (opening d)
opening_fits d formed v = go (var d v).kind
  where
    go : (k : Kind) → opening_by k (var d v).reset < 2 ^ (var d v).width
    go port = pow_pos (var d v).width
    go register = formed.resets v
    go wire = pow_pos (var d v).width

-- values that fit, and keep what is held
pub record Keeps (d : Design) (σ ρ : Valuation) : Type 0 where
  pub fits : Fits d ρ
  pub kept : (v : ℕ) → held d v ≡ true → ρ v ≡ σ v

pub values_keep : (d : Design) → Formed d → (σ : Valuation) → Fits d σ → Keeps d σ (values d σ)
values_keep d formed σ fits = record {
  fits = settle_fits d (held d) d.settled formed.settling σ fits;
  kept = settle_kept d (held d) d.settled formed.settling σ;
}

-- ---- clearing

-- what is visible in τ, and not cleared, has the same value in τ'
abbrev pub Unmoved : Meaning → Design → ℕ → Valuation → Valuation → Valuation → Type 0
Unmoved m d w σ τ τ' = (v : ℕ) → held d v ≡ true → cleared d σ τ v ≡ false → Below m (level d τ v) w → τ' v ≡ τ v

unmoved_selector : (d : Design) (σ τ : Valuation) (v t s : ℕ) → cleared d σ τ v ≡ false → (var d v).label ≡ looked_up t s → (s ≡ v) ⊎ (τ s ≡ σ s)
unmoved_selector d σ τ v t s h e =
    ⊎_elim (λ q. inl (eqb-true s v (not-false (eqb s v) q))) (λ q. inr (sym (eqb-true (σ s) (τ s) (not-false (eqb (σ s) (τ s)) q))))
    (and_cases (not (eqb s v)) (not (eqb (σ s) (τ s))) (ap (cleared_by σ τ v) (sym e) ∙ h))

-- where its selector did not move, a variable's level moves only with its own value
unmoved_level : (d : Design) (σ τ : Valuation) (v : ℕ) → cleared d σ τ v ≡ false → τ v ≡ σ v → level d τ v ≡ level d σ v
unmoved_level d σ τ v h k = level_same d τ σ v (λ t s e. ⊎_elim (λ (p : s ≡ v). subst (λ n. τ n ≡ σ n) (sym p) k) (λ p. p) (unmoved_selector d σ τ v t s h e))

module _ (m : Meaning) (d : Design) (laws : Laws m) (formed : Formed d) (typed : Typed m d) (w : ℕ) where
  module _ (σ τ σ' τ' : Valuation) (fits : Fits d τ) (see : See m d w (held d) σ σ') (unmoved : Unmoved m d w σ τ τ') where
    -- the selector of a variable that is visible
    same_selector : (v t s : ℕ) → held d v ≡ true → (var d v).label ≡ looked_up t s → Below m (level d τ v) w → τ' s ≡ τ s
    same_selector v t s h e seen =
        unmoved s (held_closed d formed v t s h e) (selector_stays d formed σ τ v t s e)
        (⊎_elim (λ (p : s ≡ v). subst (λ n. Below m (level d τ n) w) (sym p) seen) (λ p. p τ) (selector_visible m d laws formed typed w τ fits v t s e seen))

    same_cleared : (v : ℕ) → held d v ≡ true → Below m (level d τ v) w → cleared d σ' τ' v ≡ cleared d σ τ v
    same_cleared v h seen = go (var d v).label refl
      where
        go : (l : Label) → (var d v).label ≡ l → cleared_by σ' τ' v l ≡ cleared_by σ τ v l
        go (fixed l) e = refl
        go (looked_up t s) e =
            ⊎_elim (λ (p : s ≡ v). ap (λ b. not b && not (eqb (σ' s) (τ' s))) (eq-eqb s v p) ∙ sym (ap (λ b. not b && not (eqb (σ s) (τ s))) (eq-eqb s v p)))
            (λ p. ap₂ (λ a b. not (eqb s v) && not (eqb a b)) (see s (held_closed d formed v t s h e) (p σ)).0 (same_selector v t s h e seen))
            (selector_visible m d laws formed typed w τ fits v t s e seen)

    pub clear_see : See m d w (held d) (clear d σ τ) (clear d σ' τ')
    clear_see v h seen =
        let there : Below m (level d τ v) w = subst (λ l. Below m l w) (level_clear d formed σ τ v) seen in
        let levels : level d τ' v ≡ level d τ v = level_same d τ' τ v (λ t s e. same_selector v t s h e there) in (
          go (cleared d σ τ v) refl there,
          level_clear d formed σ' τ' v ∙ levels ∙ sym (level_clear d formed σ τ v),
        )
      where
        go : (b : Bool) → cleared d σ τ v ≡ b → Below m (level d τ v) w → clear d σ' τ' v ≡ clear d σ τ v
        go true p there = clear_gone d σ' τ' v (same_cleared v h there ∙ p) ∙ sym (clear_gone d σ τ v p)
        go false p there = clear_kept d σ' τ' v (same_cleared v h there ∙ p) ∙ unmoved v h p there ∙ sym (clear_kept d σ τ v p)

  -- ---- the clock

  pub clock_sound : Sound d (inside d) (ticks d)
  clock_sound =
      each_together (Reads d (inside d) 1) (λ path u e. Reads d (inside d) (var d u).width e) d.clocked
      (every_weaker (Reads d (inside d) 1) (Reads d (inside d) 1) (λ path. Clocks d) (λ path u e. Reads d (inside d) (var d u).width e) (λ e h. h)
      (λ path u e h. h.source) d.clocked formed.clocking)

  -- settled values ρ and ρ' of any kind, so that they keep what is held and show the watcher the same
  module _ (σ σ' ρ ρ' : Valuation) (keeps : Keeps d σ ρ) (keeps' : Keeps d σ' ρ')
      (see : See m d w (held d) σ σ') (there : See m d w (inside d) ρ ρ') (back : See m d w (inside d) ρ' ρ) where
    -- a register that is visible and not written is not written on the other side
    clock_none : (v : ℕ) → held d v ≡ true → Below m (level d σ' v) w → written ρ v (ticks d) ≡ None → written ρ' v (ticks d) ≡ None
    clock_none v h seen p = go (written ρ' v (ticks d)) refl
      where
        seen_now : Below m (level d ρ' v) w
        seen_now = subst (λ l. Below m l w) (sym (level_same d ρ' σ' v (λ t s e. keeps'.kept s (held_closed d formed v t s h e)))) seen

        sometimes : always (ticks d) v ≡ false
        sometimes = ⊎_elim (λ q. absurd (is_written ρ v (ticks d) q p)) (λ q. q) (cases_Bool (always (ticks d) v))

        impossible : (y : ℕ) → written ρ' v (ticks d) ≡ Some y → (z : ℕ) × (written ρ v (ticks d) ≡ Some z)
        impossible y q =
            ⊎_elim (λ (o : (t : ℕ) × ((var d v).label ≡ looked_up t v)).
            still_written m d laws typed w (inside d) ρ' ρ back keeps'.fits (ticks d) formed.apart clock_sound
            (each_together Anything (Stays m d) d.clocked typed.stays) v o.0 o.1 sometimes y q seen_now)
            (λ (o : (t s : ℕ) → (var d v).label ≡ looked_up t s → v ≡ s → ⊥). (
              y,
              same_write m d laws typed w (inside d) ρ' ρ back keeps'.fits (ticks d) formed.apart clock_sound
                  (each_together Anything (Flows m d) d.clocked typed.clocked_flows) v y q
                  (subst (λ l. Below m l w) (level_same d ρ' (put ρ' v y) v (λ t s e. sym (put_other ρ' v y s (o t s e)))) seen_now),
            ))
            (own_cases d v)

        go : (o : Option ℕ) → written ρ' v (ticks d) ≡ o → written ρ' v (ticks d) ≡ None
        go None q = q
        go (Some y) q = absurd (none≢some (written ρ v (ticks d)) (impossible y q).0 p (impossible y q).1)

    clock_unmoved : Unmoved m d w σ (after ρ σ (ticks d)) (after ρ' σ' (ticks d))
    clock_unmoved v h still seen = go (written ρ v (ticks d)) refl
      where
        τ : Valuation
        τ = after ρ σ (ticks d)

        go : (o : Option ℕ) → written ρ v (ticks d) ≡ o → after ρ' σ' (ticks d) v ≡ τ v
        go (Some x) p =
            let coming : level d τ v ≡ level d (put ρ v x) v =
            level_same d τ (put ρ v x) v (λ t s e.
            ⊎_elim (λ (q : s ≡ v). subst (λ n. τ n ≡ put ρ v x n) (sym q) (after_new ρ σ (ticks d) v x p ∙ sym (put_same ρ v x)))
            (λ (q : s ≡ v → ⊥).
            ⊎_elim (λ (r : s ≡ v). absurd (q r)) (λ r. r) (unmoved_selector d σ τ v t s still e)
            ∙ sym (put_other ρ v x s (λ r. q (sym r)) ∙ keeps.kept s (held_closed d formed v t s h e)))
            (cases_eq s v)) in
            let p' = same_write m d laws typed w (inside d) ρ ρ' there keeps.fits (ticks d) formed.apart clock_sound
            (each_together Anything (Flows m d) d.clocked typed.clocked_flows) v x p (subst (λ l. Below m l w) coming seen) in
            after_new ρ' σ' (ticks d) v x p' ∙ sym (after_new ρ σ (ticks d) v x p)
        go None p =
            let here = after_kept ρ σ (ticks d) v p in
            let k = see v h (subst (λ l. Below m l w) (unmoved_level d σ τ v still here) seen) in
            let seen' : Below m (level d σ' v) w = subst (λ l. Below m l w) (unmoved_level d σ τ v still here ∙ sym k.1) seen in
            after_kept ρ' σ' (ticks d) v (clock_none v h seen' p) ∙ k.0 ∙ sym here

    pub ticks_see : Fits d σ → See m d w (held d) (clear d σ (after ρ σ (ticks d))) (clear d σ' (after ρ' σ' (ticks d)))
    ticks_see fits =
        clear_see σ (after ρ σ (ticks d)) σ' (after ρ' σ' (ticks d))
        (after_fits d (inside d) ρ σ keeps.fits fits (ticks d) formed.apart clock_sound) see clock_unmoved

  -- the settled values of the machine
  pub values_see : (σ σ' : Valuation) → Fits d σ → See m d w (held d) σ σ' → See m d w (inside d) (values d σ) (values d σ')
  values_see σ σ' fits see = settle_see d m laws formed typed w (held d) d.settled formed.settling (held_closed d formed) typed.settled_flows σ σ' fits see

  pub clock_see : (σ σ' : Valuation) → Fits d σ → Fits d σ' → See m d w (held d) σ σ' → See m d w (held d) σ' σ → See m d w (held d) (step d σ clock) (step d σ' clock)
  clock_see σ σ' fits fits' see see' =
      ticks_see σ σ' (values d σ) (values d σ') (values_keep d formed σ fits) (values_keep d formed σ' fits') see (values_see σ σ' fits see) (values_see σ' σ fits' see') fits

  -- ---- drives

  -- the same drive on both sides
  pub drive_see : (u x : ℕ) → x < 2 ^ (var d u).width → (σ σ' : Valuation) → Fits d σ → See m d w (held d) σ σ' → See m d w (held d) (clear d σ (put σ u x)) (clear d σ' (put σ' u x))
  drive_see u x small σ σ' fits see =
      clear_see σ (put σ u x) σ' (put σ' u x) (put_fits d σ u x fits small) see (λ v h still seen.
      ⊎_elim (λ (p : u ≡ v). subst (λ n. put σ' u x n ≡ put σ u x n) p (put_same σ' u x ∙ sym (put_same σ u x)))
      (λ (p : u ≡ v → ⊥).
      put_other σ' u x v p ∙ (see v h (subst (λ l. Below m l w) (unmoved_level d σ (put σ u x) v still (put_other σ u x v p)) seen)).0 ∙ sym (put_other σ u x v p))
      (cases_eq u v))

  clear_same : (σ : Valuation) → clear d σ σ ≡ σ
  clear_same σ = fun_ext (λ v. clear_kept d σ σ v (go v (var d v).label))
    where
      go : (v : ℕ) (l : Label) → cleared_by σ σ v l ≡ false
      go v (fixed l) = refl
      go v (looked_up t s) = ap (λ b. not (eqb s v) && not b) (eq-eqb (σ s) (σ s) refl) ∙ and_right (not (eqb s v)) false refl

  -- a drive of a port that is not visible, on one side
  module _ (u x : ℕ) (small : x < 2 ^ (var d u).width) (is : (var d u).kind ≡ port) (σ : Valuation) (fits : Fits d σ) (hidden : m.below (level d σ u) w ≡ false) where
    same : See m d w (held d) σ σ
    same v h seen = (refl, refl)

    pub hidden_from : See m d w (held d) σ (clear d σ (put σ u x))
    hidden_from =
        subst (λ ρ. See m d w (held d) ρ (clear d σ (put σ u x))) (clear_same σ)
        (clear_see σ σ σ (put σ u x) fits same (λ v h still seen.
        put_other σ u x v (λ p. both_ways (m.below (level d σ u) w) hidden (subst (λ n. Below m (level d σ n) w) (sym p) seen))))

    pub hidden_to : See m d w (held d) (clear d σ (put σ u x)) σ
    hidden_to =
        subst (λ ρ. See m d w (held d) (clear d σ (put σ u x)) ρ) (clear_same σ)
        (clear_see σ (put σ u x) σ σ (put_fits d σ u x fits small) same (λ v h still seen. sym (put_other σ u x v (λ p.
        both_ways (m.below (level d σ u) w) hidden
        (subst (λ l. Below m l w) (level_same d (put σ u x) σ u (λ t s e. put_other σ u x s (λ q. ((formed.selectors u t s e).of_port is).0 (sym q))))
        (subst (λ n. Below m (level d (put σ u x) n) w) (sym p) seen))))))
