-- Blocks one after the other: what they assign.
use Rattle.std.proofs.Common.{◌≡◌, ℕ, zero, suc, ◌<◌, true, false, ◌&&◌, ◌||◌, sym, refl, ◌∙◌, subst, ⊎_elim, true≢false, arith}
use Rattle.std.proofs.lemmas.Bool.{cases_lt, cases_Bool, or_parts, or_cases, or_left, or_right, and_parts, and_from}
use Rattle.language.specs.Syntax.{Cmd, idle, seq, choice, assign}
use Rattle.language.specs.Form.{assigns, always, Apart}
use Rattle.records.specs.Trees.{body_at}
use Rattle.survey.specs.Walks.{twice, blocks_to}
use Rattle.design.proofs.Fits.{second}
use Rattle.records.specs.Layouts.{File}

pub always_assigns : (c : Cmd) (v : ℕ) → always c v ≡ true → assigns c v ≡ true
always_assigns idle v e = e
always_assigns (seq a b) v e =
    ⊎_elim
    (λ h. or_left (assigns a v) (assigns b v) (always_assigns a v h))
    (λ h. or_right (assigns a v) (assigns b v) (always_assigns b v h))
    (or_cases (always a v) (always b v) e)
always_assigns (choice x a b) v e = or_left (assigns a v) (assigns b v) (always_assigns a v (and_parts (always a v) (always b v) e).0)
always_assigns (assign u x k) v e = e

pub twice_assigns : (c : Cmd) (v : ℕ) → twice c v ≡ true → assigns c v ≡ true
twice_assigns idle v e = e
twice_assigns (seq a b) v e =
    ⊎_elim
    (λ h. or_left (assigns a v) (assigns b v) (and_parts (assigns a v) (assigns b v) h).0)
    (λ h. ⊎_elim
    (λ x. or_left (assigns a v) (assigns b v) (twice_assigns a v x))
    (λ x. or_right (assigns a v) (assigns b v) (twice_assigns b v x))
    (or_cases (twice a v) (twice b v) h))
    (or_cases (assigns a v && assigns b v) (twice a v || twice b v) e)
twice_assigns (choice x a b) v e =
    ⊎_elim
    (λ h. or_left (assigns a v) (assigns b v) (twice_assigns a v h))
    (λ h. or_right (assigns a v) (assigns b v) (twice_assigns b v h))
    (or_cases (twice a v) (twice b v) e)
twice_assigns (assign u x k) v e = absurd (true≢false (sym e))

pub apart_from : (c : Cmd) → ((v : ℕ) → twice c v ≡ false) → Apart c
apart_from idle h = tt
apart_from (seq a b) h =
    let split : (v : ℕ) → ((assigns a v && assigns b v) ≡ false) × ((twice a v || twice b v) ≡ false) = λ v. or_parts (assigns a v && assigns b v) (twice a v || twice b v) (h v) in (
      apart_from a (λ v. (or_parts (twice a v) (twice b v) (split v).1).0),
      apart_from b (λ v. (or_parts (twice a v) (twice b v) (split v).1).1),
      λ v e. second (assigns a v) (assigns b v) (split v).0 e,
    )
apart_from (choice x a b) h =
    (apart_from a (λ v. (or_parts (twice a v) (twice b v) (h v)).0), apart_from b (λ v. (or_parts (twice a v) (twice b v) (h v)).1))
apart_from (assign u x k) h = tt

module _ (f : File) where
  pub assigns_more : (n v : ℕ) → assigns (blocks_to f (suc n)) v ≡ (assigns (blocks_to f n) v || assigns (body_at f n) v)
  unfolding blocks_to
  assigns_more n v = refl

  pub assigns_none : (v : ℕ) → assigns (blocks_to f 0) v ≡ false
  unfolding blocks_to
  assigns_none v = refl

  pub before_assigns : (c b v : ℕ) → b < c → assigns (body_at f b) v ≡ true → assigns (blocks_to f c) v ≡ true
  before_assigns zero b v lt h = absurd (omega arith)
  before_assigns (suc c) b v lt h =
      assigns_more c v ∙
      ⊎_elim
      (λ below. or_left (assigns (blocks_to f c) v) (assigns (body_at f c) v) (before_assigns c b v below h))
      (λ ge. let z : b ≡ c = omega arith in or_right (assigns (blocks_to f c) v) (assigns (body_at f c) v) (subst (λ k. assigns (body_at f k) v ≡ true) z h))
      (cases_lt b c)

  pub once : (n b v : ℕ) → b < n → twice (blocks_to f n) v ≡ false → ((assigns (blocks_to f b) v && assigns (body_at f b) v) ≡ false) × (twice (body_at f b) v ≡ false)
  unfolding blocks_to
  once zero b v lt e = absurd (omega arith)
  once (suc n) b v lt e =
      let s = or_parts (assigns (blocks_to f n) v && assigns (body_at f n) v) (twice (blocks_to f n) v || twice (body_at f n) v) e in
      let t = or_parts (twice (blocks_to f n) v) (twice (body_at f n) v) s.1 in
      ⊎_elim
      (λ below. once n b v below t.0)
      (λ ge. let z : n ≡ b = omega arith in subst (λ k. ((assigns (blocks_to f k) v && assigns (body_at f k) v) ≡ false) × (twice (body_at f k) v ≡ false)) z (s.0, t.1))
      (cases_lt b n)

  not_both : (n b c v : ℕ) → c < n → twice (blocks_to f n) v ≡ false → b < c → assigns (body_at f b) v ≡ true → assigns (body_at f c) v ≡ true → ⊥
  not_both n b c v cn e lt hb hc =
      true≢false (sym (and_from (assigns (blocks_to f c) v) (assigns (body_at f c) v) (before_assigns c b v lt hb) hc) ∙ (once n c v cn e).0)

  -- one block assigns v
  pub only : (n b c v : ℕ) → twice (blocks_to f n) v ≡ false → b < n → c < n → assigns (body_at f b) v ≡ true → assigns (body_at f c) v ≡ true → b ≡ c
  only n b c v e bn cn hb hc =
      ⊎_elim
      (λ lt. absurd (not_both n b c v cn e lt hb hc))
      (λ ge. ⊎_elim (λ lt. absurd (not_both n c b v bn e lt hc hb)) (λ le. let z : b ≡ c = omega arith in z) (cases_lt c b))
      (cases_lt b c)

  pub always_in : (n v : ℕ) → always (blocks_to f n) v ≡ true → (b : ℕ) × (b < n) × (always (body_at f b) v ≡ true)
  unfolding blocks_to
  always_in zero v e = absurd (true≢false (sym e))
  always_in (suc n) v e =
      ⊎_elim
      (λ h. let r = always_in n v h in (r.0, omega (arith, r.1), r.2))
      (λ h. (n, omega arith, h))
      (or_cases (always (blocks_to f n) v) (always (body_at f n) v) e)

  -- a block that assigns what no block before it does
  pub fresh : (n b v : ℕ) → b < n → twice (blocks_to f n) v ≡ false → assigns (body_at f b) v ≡ true → assigns (blocks_to f b) v ≡ false
  fresh n b v lt e h =
      ⊎_elim
      (λ t. absurd (true≢false (sym (and_from (assigns (blocks_to f b) v) (assigns (body_at f b) v) t h) ∙ (once n b v lt e).0)))
      (λ z. z)
      (cases_Bool (assigns (blocks_to f b) v))

  pub always_before : (n c v : ℕ) → c < n → always (body_at f c) v ≡ true → always (blocks_to f n) v ≡ true
  unfolding blocks_to
  always_before zero c v lt h = absurd (omega arith)
  always_before (suc n) c v lt h =
      ⊎_elim
      (λ below. or_left (always (blocks_to f n) v) (always (body_at f n) v) (always_before n c v below h))
      (λ ge. let z : c ≡ n = omega arith in or_right (always (blocks_to f n) v) (always (body_at f n) v) (subst (λ k. always (body_at f k) v ≡ true) z h))
      (cases_lt c n)

  pub blocks_some : (n v : ℕ) → assigns (blocks_to f n) v ≡ true → (c : ℕ) × (c < n) × (assigns (body_at f c) v ≡ true)
  unfolding blocks_to
  blocks_some zero v e = absurd (true≢false (sym e))
  blocks_some (suc n) v e =
      ⊎_elim
      (λ h. let r = blocks_some n v h in (r.0, omega (arith, r.1), r.2))
      (λ h. (n, omega arith, h))
      (or_cases (assigns (blocks_to f n) v) (assigns (body_at f n) v) e)
