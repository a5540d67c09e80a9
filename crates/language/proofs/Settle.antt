-- The wires settle alike.
use Rattle.std.proofs.Common.{◌≡◌, ℕ, ◌^◌, ◌<◌, Bool, true, false, ◌||◌, List, [], ◌∷◌, is_some as option_is_some, Some, None, Option, unwrap_or, sym, refl, ap, ◌∙◌, subst, ⊎_elim}
use Rattle.std.proofs.lemmas.Bool.{cases_Bool, both_ways, or_cases, or_left, or_right}
use Rattle.lattice.specs.Meaning.{Meaning, Below, Laws}
use Rattle.language.specs.Syntax.{Expr, Cmd, Design, var}
use Rattle.language.specs.Machine.{Valuation, put, written, after, settle, level, inside, gets}
use Rattle.language.specs.Form.{Each, Every, Apart, assigns, Reads, Settles, Settling, Formed}
use Rattle.language.specs.Typing.{Fits, Flows, Anything, Typed}
use Rattle.language.proofs.Lists.{put_same, put_other}
use Rattle.language.proofs.Walks.{each_weaker, each_assigned}
use Rattle.language.proofs.Commands.{not_written, is_written}
use Rattle.language.proofs.Levels.{See, Closed, level_same, selector_visible}
use Rattle.language.proofs.Writes.{Sound, written_fits, same_write}

pub is_some : (o : Option ℕ) → (o ≡ None → ⊥) → (x : ℕ) × (o ≡ Some x)
is_some (Some x) h = (x, refl)
is_some None h = absurd (h refl)

module _ (ρ σ : Valuation) (c : Cmd) (v : ℕ) where
  pub after_kept : written ρ v c ≡ None → after ρ σ c v ≡ σ v
  after_kept h = ap (λ o. unwrap_or o (σ v)) h

  pub after_new : (x : ℕ) → written ρ v c ≡ Some x → after ρ σ c v ≡ x
  after_new x h = ap (λ o. unwrap_or o (σ v)) h

pub after_fits : (d : Design) (known : ℕ → Bool) (ρ σ : Valuation) → Fits d ρ → Fits d σ → (c : Cmd) → Apart c → Sound d known c → Fits d (after ρ σ c)
after_fits d known ρ σ fits fits' c apart sound v = go (written ρ v c) refl
  where
    go : (o : Option ℕ) → written ρ v c ≡ o → unwrap_or o (σ v) < 2 ^ (var d v).width
    go (Some x) h = written_fits d known ρ fits c apart sound v x h
    go None h = fits' v

-- a settled block, where `known` is known before it
module _ (d : Design) (known : ℕ → Bool) (c : Cmd) (block : Each (Reads d known 1) (λ path. Settles d known c) [] c) where
  block_sound : Sound d known c
  block_sound =
      each_weaker (Reads d known 1) (Reads d known 1) (λ path. Settles d known c) (λ path u e. Reads d known (var d u).width e) (λ e h. h) (λ path u e h. h.source) [] c block

  settles : (v : ℕ) → assigns c v ≡ true → (e : Expr) × Settles d known c v e
  settles v h =
      let r = each_assigned (Reads d known 1) (λ path. Settles d known c) v [] c block h in
      (r.1, r.2)

  known_kept : (ρ : Valuation) (v : ℕ) → known v ≡ true → after ρ ρ c v ≡ ρ v
  known_kept ρ v h = ⊎_elim (λ p. absurd (both_ways (known v) (settles v p).1.first h)) (λ p. after_kept ρ ρ c v (not_written ρ v c p)) (cases_Bool (assigns c v))

  closed_next : Closed d known → Closed d (λ v. known v || assigns c v)
  closed_next closed v t s h e =
      ⊎_elim (λ p. or_left (known s) (assigns c s) (closed v t s p e))
      (λ p. ⊎_elim (λ (q : s ≡ v). subst (λ n. (known n || assigns c n) ≡ true) (sym q) h) (λ q. or_left (known s) (assigns c s) q) ((settles v p).1.selector t s e))
      (or_cases (known v) (assigns c v) h)

  module _ (m : Meaning) (laws : Laws m) (formed : Formed d) (typed : Typed m d) (w : ℕ) (closed : Closed d known) (apart : Apart c)
      (flows : Each Anything (Flows m d) [] c) (ρ σ : Valuation) (fits : Fits d ρ) (see : See m d w known ρ σ) where
    level_kept : (ρ : Valuation) (v : ℕ) → known v ≡ true → level d (after ρ ρ c) v ≡ level d ρ v
    level_kept ρ v h = level_same d (after ρ ρ c) ρ v (λ t s e. known_kept ρ s (closed v t s h e))

    see_known : (v : ℕ) → known v ≡ true → Below m (level d (after ρ ρ c) v) w → (after σ σ c v ≡ after ρ ρ c v) × (level d (after σ σ c) v ≡ level d (after ρ ρ c) v)
    see_known v h seen =
        let k = see v h (subst (λ l. Below m l w) (level_kept ρ v h) seen) in
        (known_kept σ v h ∙ k.0 ∙ sym (known_kept ρ v h), level_kept σ v h ∙ k.1 ∙ sym (level_kept ρ v h))

    see_new : (v : ℕ) → assigns c v ≡ true → Below m (level d (after ρ ρ c) v) w → (after σ σ c v ≡ after ρ ρ c v) × (level d (after σ σ c) v ≡ level d (after ρ ρ c) v)
    see_new v h seen =
        let k = (settles v h).1 in
        let x = (is_some (written ρ v c) (is_written ρ v c k.all)).0 in
        let p : written ρ v c ≡ Some x = (is_some (written ρ v c) (is_written ρ v c k.all)).1 in
        let now : level d (after ρ ρ c) v ≡ level d (put ρ v x) v =
        level_same d (after ρ ρ c) (put ρ v x) v (λ t s e.
        ⊎_elim (λ (q : s ≡ v). subst (λ n. after ρ ρ c n ≡ put ρ v x n) (sym q) (after_new ρ ρ c v x p ∙ sym (put_same ρ v x)))
        (λ q. known_kept ρ s q ∙ sym (put_other ρ v x s (λ i. both_ways (known s) (subst (λ n. known n ≡ false) i k.first) q))) (k.selector t s e)) in
        let p' = same_write m d laws typed w known ρ σ see fits c apart block_sound flows v x p (subst (λ l. Below m l w) now seen) in
        let value : after σ σ c v ≡ after ρ ρ c v = after_new σ σ c v x p' ∙ sym (after_new ρ ρ c v x p) in
        let own : (s : ℕ) → s ≡ v → after σ σ c s ≡ after ρ ρ c s = λ s q. subst (λ n. after σ σ c n ≡ after ρ ρ c n) (sym q) value in (
          value,
          level_same d (after σ σ c) (after ρ ρ c) v (λ t s e.
              ⊎_elim (own s)
              (λ q. ⊎_elim (own s) (λ g. (see_known s g (q (after ρ ρ c))).0) (k.selector t s e))
              (selector_visible m d laws formed typed w (after ρ ρ c) (after_fits d known ρ ρ fits fits c apart block_sound) v t s e seen)),
        )

    pub block_see : See m d w (λ v. known v || assigns c v) (after ρ ρ c) (after σ σ c)
    block_see v h seen = ⊎_elim (λ p. see_known v p seen) (λ p. see_new v p seen) (or_cases (known v) (assigns c v) h)

-- the settled blocks, one after the other
module _ (d : Design) where
  pub settle_kept : (known : ℕ → Bool) (cs : List Cmd) → Settling d known cs → (ρ : Valuation) (v : ℕ) → known v ≡ true → settle ρ cs v ≡ ρ v
  settle_kept known [] h ρ v k = refl
  settle_kept known (c ∷ cs) h ρ v k =
      settle_kept (λ u. known u || assigns c u) cs h.2 (after ρ ρ c) v (or_left (known v) (assigns c v) k) ∙ known_kept d known c h.0 ρ v k

  -- every wire gets a value
  pub all_get : (known : ℕ → Bool) (cs : List Cmd) → Settling d known cs → (ρ : Valuation) (v : ℕ) → inside d v ≡ true → (known v || gets ρ cs v) ≡ true
  all_get known [] h ρ v k = or_left (known v) false (h v k)
  all_get known (c ∷ cs) h ρ v k =
      ⊎_elim (λ p. ⊎_elim (λ q. or_left (known v) (gets ρ (c ∷ cs) v) q)
      (λ q. or_right (known v) (gets ρ (c ∷ cs) v) (or_left (option_is_some (written ρ v c)) (gets (after ρ ρ c) cs v) (by_some q))) (or_cases (known v) (assigns c v) p))
      (λ p. or_right (known v) (gets ρ (c ∷ cs) v) (or_right (option_is_some (written ρ v c)) (gets (after ρ ρ c) cs v) p))
      (or_cases (known v || assigns c v) (gets (after ρ ρ c) cs v) (all_get (λ u. known u || assigns c u) cs h.2 (after ρ ρ c) v k))
    where
      by_some : assigns c v ≡ true → option_is_some (written ρ v c) ≡ true
      by_some q = ap option_is_some (is_some (written ρ v c) (is_written ρ v c (settles d known c h.0 v q).1.all)).1

  pub settle_fits : (known : ℕ → Bool) (cs : List Cmd) → Settling d known cs → (ρ : Valuation) → Fits d ρ → Fits d (settle ρ cs)
  settle_fits known [] h ρ fits = fits
  settle_fits known (c ∷ cs) h ρ fits =
      settle_fits (λ u. known u || assigns c u) cs h.2 (after ρ ρ c) (after_fits d known ρ ρ fits fits c h.1 (block_sound d known c h.0))

  module _ (m : Meaning) (laws : Laws m) (formed : Formed d) (typed : Typed m d) (w : ℕ) where
    pub settle_see : (known : ℕ → Bool) (cs : List Cmd) → Settling d known cs → Closed d known → Every Anything (Flows m d) cs
        → (ρ σ : Valuation) → Fits d ρ → See m d w known ρ σ → See m d w (inside d) (settle ρ cs) (settle σ cs)
    settle_see known [] h closed flows ρ σ fits see = λ v k. see v (h v k)
    settle_see known (c ∷ cs) h closed flows ρ σ fits see =
        settle_see (λ u. known u || assigns c u) cs h.2 (closed_next d known c h.0 closed) flows.1 (after ρ ρ c) (after σ σ c)
        (after_fits d known ρ ρ fits fits c h.1 (block_sound d known c h.0))
        (block_see d known c h.0 m laws formed typed w closed h.1 flows.0 ρ σ fits see)
