-- The five leaks.
use Rattle.std.proofs.Common.{◌≡◌, ℕ, zero, suc, ◌^◌, ◌<◌, ◌≤◌, true, eqb, ltb, leb, ◌↔◌, List, [], ◌∷◌, Ok, Err, Result, sym, refl, ap, ◌∙◌, subst, inl, inr, arith, lit<, lit≤}
use Rattle.std.proofs.lemmas.Bool.{leb-true, ltb-true, le-leb, lt-ltb, eqb-true, and_parts, and_from, true≢false}
use Rattle.refusal.specs.declared.Refusal.{Refusal}
use Rattle.lattice.specs.Meaning.{Below, Laws, Joined}
use Rattle.language.specs.Syntax.{Expr, Cmd, Design, constant, variable, idle, seq, choice, assign, port, register, fixed, looked_up, var, entry}
use Rattle.language.specs.Machine.{Valuation, opening, Call, drive, clock, answer, inside, held}
use Rattle.language.specs.Form.{Way, Every, Reads, Clocks, Selects, Formed}
use Rattle.language.specs.Typing.{Allowed, Flows, Stays, Reaches, TableLevels, LabelLevel, Anything, Typed}
use Rattle.language.specs.Guarantee.{strike, final, Secure}
use Rattle.lattice.specs.Chains.{chain_laws}
use Rattle.language.specs.Leaks.{two, Rules, Separate, Entries, BareFlows, AllRules, ConditionsLeftOut, SkipsAllowed, AnyEntries, OverlapsAllowed, keep_run, KeptBounded, sample, copying, skipping, overlapping, levelless, keeping, Leaks}

-- ---- the chain of two levels

order : (a b : ℕ) → Below two a b → (a ≤ b) × (b < 2)
order a b h =
    let p = and_parts (leb a b) (ltb b 2) h in
    (leb-true a b p.0, ltb-true b 2 p.1)

pub ordered : (a b : ℕ) → a ≤ b → b < 2 → Below two a b
ordered a b h k = and_from (leb a b) (ltb b 2) (le-leb a b h) (lt-ltb b 2 k)

two_laws : Laws two
two_laws = chain_laws 2 (lit≤ tt) (lit≤ tt)

-- ---- the rules together

whole : (d : Design) → AllRules d ↔ (Formed d × Typed two d)
whole d = (
  (λ r. (
    record { resets = r.resets; settling = r.settling; clocking = r.clocking; apart = r.separate; selectors = r.selectors },
    record {
      levelled = record { entries = r.levels; labels = r.labels };
      reaches = r.reaches;
      settled_flows = r.settled_flows;
      clocked_flows = r.clocked_flows;
      stays = r.staying;
    },
  )),
  (λ r. record {
    resets = r.0.resets;
    settling = r.0.settling;
    clocking = r.0.clocking;
    separate = r.0.apart;
    selectors = r.0.selectors;
    levels = r.1.levelled.entries;
    labels = r.1.levelled.labels;
    reaches = r.1.reaches;
    settled_flows = r.1.settled_flows;
    clocked_flows = r.1.clocked_flows;
    staying = r.1.stays;
  }),
)

-- ---- the sample's variables

pub fixed≢looked_up : (l t s : ℕ) → fixed l ≡ looked_up t s → ⊥
fixed≢looked_up l t s p = let z : ◌≡◌ {A = ℕ} 0 1 = cc in omega arith

pub register≢port : register ≡ port → ⊥
register≢port p = let z : ◌≡◌ {A = ℕ} 0 1 = cc in omega arith

pub three_inside : (n : ℕ) → ltb (suc (suc (suc n))) 3 ≡ true → ⊥
three_inside n h = let p = ltb-true (suc (suc (suc n))) 3 h in omega arith

module _ (top start : ℕ) (block : Cmd) where
  resets : start < 2 → (v : ℕ) → (var (sample top start block) v).reset < 2 ^ (var (sample top start block) v).width
  resets h zero = lit< tt
  resets h (suc zero) = h
  resets h (suc (suc zero)) = lit< tt
  resets h (suc (suc (suc n))) = lit< tt

  settling : (v : ℕ) → inside (sample top start block) v ≡ true → held (sample top start block) v ≡ true
  settling zero h = refl
  settling (suc zero) h = refl
  settling (suc (suc zero)) h = refl
  settling (suc (suc (suc n))) h = absurd (three_inside n h)

  selectors : (v t s : ℕ) → (var (sample top start block) v).label ≡ looked_up t s → Selects (sample top start block) v s
  selectors zero t s e = absurd (fixed≢looked_up 1 t s e)
  selectors (suc zero) t s e =
      let p : 1 ≡ s = cc in
      subst (Selects (sample top start block) 1) p
      (record { names = refl; narrow = lit≤ tt; own = inl refl; of_port = λ h. absurd (register≢port h); of_register = λ h. refl })
  selectors (suc (suc zero)) t s e = absurd (fixed≢looked_up 0 t s e)
  selectors (suc (suc (suc n))) t s e = absurd (fixed≢looked_up 0 t s e)

  labels : (v : ℕ) → LabelLevel two (sample top start block) v
  labels zero l e = let p : 1 ≡ l = cc in omega arith
  labels (suc zero) l e = absurd (fixed≢looked_up l 0 1 (sym e))
  labels (suc (suc zero)) l e = let p : 0 ≡ l = cc in omega arith
  labels (suc (suc (suc n))) l e = let p : 0 ≡ l = cc in omega arith

  reaches : (v : ℕ) → Reaches two (sample top start block) v
  reaches zero t s l e f = absurd (fixed≢looked_up 1 t s e)
  reaches (suc zero) t s l e f = let p : 1 ≡ s = cc in absurd (fixed≢looked_up l 0 1 (sym (ap (λ n. (var (sample top start block) n).label) p ∙ f)))
  reaches (suc (suc zero)) t s l e f = absurd (fixed≢looked_up 0 t s e)
  reaches (suc (suc (suc n))) t s l e f = absurd (fixed≢looked_up 0 t s e)

entries : (start : ℕ) (block : Cmd) (t : ℕ) → TableLevels two (sample 1 start block) t
entries start block zero zero = lit< tt
entries start block zero (suc zero) = lit< tt
entries start block zero (suc (suc i)) = lit< tt
entries start block (suc t) i = lit< tt

-- the rules of a sample, from those about its block
module _ (top start : ℕ) (block : Cmd) (apart entries : Type 0) (F S : List Way → ℕ → Expr → Type 0) where
  sampled : start < 2 → Every (Reads (sample top start block) (inside (sample top start block)) 1) (λ path. Clocks (sample top start block)) (block ∷ [])
      → apart → entries → Every Anything F (block ∷ []) → Every Anything S (block ∷ []) → Rules (sample top start block) apart entries F S
  sampled small clocks a l f s = record {
    resets = resets top start block small;
    settling = settling top start block;
    clocking = clocks;
    separate = a;
    selectors = selectors top start block;
    levels = l;
    labels = labels top start block;
    reaches = reaches top start block;
    settled_flows = tt;
    clocked_flows = f;
    staying = s;
  }

-- ---- what a watcher at 0 is told: the value, or 2 where the read is refused

abbrev shown : Result (ℕ × ℕ) Refusal → ℕ
shown (Ok a) = a.0
shown (Err f) = 2

leak : (d : Design) (v x y : ℕ) → (x ≡ y → ⊥) → (cs ds : List Call) → strike two d 0 (opening d) cs ≡ strike two d 0 (opening d) ds
    → shown (answer two d (final d cs) 0 v) ≡ x → shown (answer two d (final d ds) 0 v) ≡ y → Secure two d → ⊥
leak d v x y apart cs ds same one other s = apart (sym one ∙ ap shown (s.bounded 0 cs ds same v) ∙ other)

-- ---- the four samples

-- a public constant flows anywhere
from_nothing : (goal : ℕ) → goal < 2 → (j : ℕ) → Joined two [] j → Below two j goal
from_nothing goal h j is = is.least goal h tt

-- the secret flows where the level is 1
pub from_secret : (j : ℕ) → Joined two (1 ∷ []) j → Below two j 1
from_secret j is = is.least 1 (lit< tt) (refl, tt)

conditions_pass : ConditionsLeftOut copying
conditions_pass =
    sampled 1 0 (choice (variable 1 0 0) (assign 2 (constant 1 1) 0) (assign 2 (constant 1 0) 1)) (Separate copying) (Entries copying) (BareFlows copying) (Stays two copying) (lit< tt) (
      (
        record { sized = refl; wide = refl; reads = (refl, tt) },
        record { source = record { sized = lit< tt; wide = refl; reads = tt }; target = refl },
        record { source = record { sized = lit< tt; wide = refl; reads = tt }; target = refl },
      ),
      tt,
    )
    ((tt, tt), tt, λ v h. refl)
    (entries 0 (choice (variable 1 0 0) (assign 2 (constant 1 1) 0) (assign 2 (constant 1 0) 1)))
    ((tt, λ ρ fits allowed x p. from_nothing 0 (lit< tt), λ ρ fits allowed x p. from_nothing 0 (lit< tt)), tt)
    ((tt, λ t own. absurd (fixed≢looked_up 0 t 2 own), λ t own. absurd (fixed≢looked_up 0 t 2 own)), tt)

skips_pass : SkipsAllowed skipping
skips_pass =
    sampled 1 0 (choice (variable 1 0 0) (assign 1 (constant 1 1) 0) idle) (Separate skipping) (Entries skipping) (Flows two skipping) (λ path u e. Unit) (lit< tt) (
      (
        record { sized = refl; wide = refl; reads = (refl, tt) },
        record { source = record { sized = lit< tt; wide = refl; reads = tt }; target = refl },
        tt,
      ),
      tt,
    )
    ((tt, tt), tt, λ v h. refl)
    (entries 0 (choice (variable 1 0 0) (assign 1 (constant 1 1) 0) idle))
    ((tt, λ ρ fits allowed x p j is. subst (λ z. Below two j (entry skipping 0 z)) (sym p) (from_secret j is), tt), tt)
    ((tt, tt, tt), tt)

entries_pass : AnyEntries levelless
entries_pass =
    sampled 5 1 (choice (variable 1 1 0) (assign 2 (variable 1 0 1) 0) idle) (Separate levelless) Unit (Flows two levelless) (Stays two levelless) (lit< tt) (
      (
        record { sized = refl; wide = refl; reads = (refl, tt) },
        record { source = record { sized = refl; wide = refl; reads = (refl, tt) }; target = refl },
        tt,
      ),
      tt,
    )
    ((tt, tt), tt, λ v h. refl)
    tt
    ((tt, λ ρ fits allowed x p j is. absurd (no_join ρ (one_there ρ allowed) j is), tt), tt)
    ((tt, λ t own. absurd (fixed≢looked_up 0 t 2 own), tt), tt)
  where
    one_there : (ρ : Valuation) → Allowed levelless ((variable 1 1 0, true) ∷ []) ρ → ρ 1 ≡ 1
    one_there ρ allowed = eqb-true (ρ 1) 1 (and_parts (eqb (ρ 1) 1) true (allowed 1 refl (lit≤ tt))).0

    no_join : (ρ : Valuation) → ρ 1 ≡ 1 → (j : ℕ) → Joined two (1 ∷ entry levelless 0 (ρ 1) ∷ []) j → ⊥
    no_join ρ e j is = let p = order 5 j (subst (λ z. Below two (entry levelless 0 z) j) e is.above.1.0) in omega arith

overlaps_pass : OverlapsAllowed overlapping
overlaps_pass =
    sampled 1 0 (seq (assign 1 (constant 1 0) 0) (choice (variable 1 0 0) (assign 1 (constant 1 1) 1) idle)) Unit (Entries overlapping) (Flows two overlapping) (Stays two overlapping) (lit< tt) (
      (
        record { source = record { sized = lit< tt; wide = refl; reads = tt }; target = refl },
        (
          record { sized = refl; wide = refl; reads = (refl, tt) },
          record { source = record { sized = lit< tt; wide = refl; reads = tt }; target = refl },
          tt,
        ),
      ),
      tt,
    )
    tt
    (entries 0 (seq (assign 1 (constant 1 0) 0) (choice (variable 1 0 0) (assign 1 (constant 1 1) 1) idle))) (
      (
        λ ρ fits allowed x p j is. subst (λ z. Below two j (entry overlapping 0 z)) (sym p) (from_nothing 0 (lit< tt) j is),
        (tt, λ ρ fits allowed x p j is. subst (λ z. Below two j (entry overlapping 0 z)) (sym p) (from_secret j is), tt),
      ),
      tt,
    )
    ((λ t own off. absurd (true≢false off), (tt, λ t own off. absurd (true≢false off), tt)), tt)

-- ---- the register that is kept

keeping_labels : (v : ℕ) → LabelLevel two keeping v
keeping_labels zero l e = let p : 0 ≡ l = cc in omega arith
keeping_labels (suc zero) l e = let p : 1 ≡ l = cc in omega arith
keeping_labels (suc (suc zero)) l e = absurd (fixed≢looked_up l 0 0 (sym e))
keeping_labels (suc (suc (suc n))) l e = let p : 0 ≡ l = cc in omega arith

keeping_entries : (t : ℕ) → TableLevels two keeping t
keeping_entries t = entries 0 idle t

keeping_reaches : (v : ℕ) → Reaches two keeping v
keeping_reaches zero t s l e f = absurd (fixed≢looked_up 0 t s e)
keeping_reaches (suc zero) t s l e f = absurd (fixed≢looked_up 1 t s e)
keeping_reaches (suc (suc zero)) t s l e f =
    let p : 0 ≡ s = cc in
    let q : fixed 0 ≡ fixed l = ap (λ n. (var keeping n).label) p ∙ f in
    let z : 0 ≡ l = cc in
    λ x h. subst (λ k. Below two k (entry keeping t x)) z (ordered 0 (entry keeping t x) (omega arith) (keeping_entries t x))
keeping_reaches (suc (suc (suc n))) t s l e f = absurd (fixed≢looked_up 0 t s e)

keeping_resets : (v : ℕ) → (var keeping v).reset < 2 ^ (var keeping v).width
keeping_resets zero = lit< tt
keeping_resets (suc zero) = lit< tt
keeping_resets (suc (suc zero)) = lit< tt
keeping_resets (suc (suc (suc n))) = lit< tt

keeping_settling : (v : ℕ) → inside keeping v ≡ true → held keeping v ≡ true
keeping_settling zero h = refl
keeping_settling (suc zero) h = refl
keeping_settling (suc (suc zero)) h = refl
keeping_settling (suc (suc (suc n))) h = absurd (three_inside n h)

keeping_selectors : (v t s : ℕ) → (var keeping v).label ≡ looked_up t s → Selects keeping v s
keeping_selectors zero t s e = absurd (fixed≢looked_up 0 t s e)
keeping_selectors (suc zero) t s e = absurd (fixed≢looked_up 1 t s e)
keeping_selectors (suc (suc zero)) t s e =
    let p : 0 ≡ s = cc in
    subst (Selects keeping 2) p
    (record { names = refl; narrow = lit≤ tt; own = inr (0, refl); of_port = λ h. absurd (register≢port h); of_register = λ h. refl })
keeping_selectors (suc (suc (suc n))) t s e = absurd (fixed≢looked_up 0 t s e)

keeping_formed : Formed keeping
keeping_formed = record {
  resets = keeping_resets;
  settling = keeping_settling;
  clocking = (
    (
      record { sized = refl; wide = refl; reads = (refl, tt) },
      record { source = record { sized = refl; wide = refl; reads = (refl, tt) }; target = refl },
      tt,
    ),
    tt,
  );
  apart = ((tt, tt), tt, λ v h. refl);
  selectors = keeping_selectors;
}

keeping_typed : Typed two keeping
keeping_typed = record {
  levelled = record { entries = keeping_entries; labels = keeping_labels };
  reaches = keeping_reaches;
  settled_flows = tt;
  clocked_flows = ((tt, λ ρ fits allowed x p j is. subst (λ z. Below two j (entry keeping 0 z)) (sym (one_there ρ allowed)) (is.least 1 (lit< tt) (refl, (refl, tt))), tt), tt);
  stays = ((tt, λ t own. absurd (not_own t own), tt), tt);
}
  where
    one_there : (ρ : Valuation) → Allowed keeping ((variable 1 0 0, true) ∷ []) ρ → ρ 0 ≡ 1
    one_there ρ allowed = eqb-true (ρ 0) 1 (and_parts (eqb (ρ 0) 1) true (allowed 0 refl (lit≤ tt))).0

    not_own : (t : ℕ) → looked_up 0 0 ≡ looked_up t 2 → ⊥
    not_own t e = let z : ◌≡◌ {A = ℕ} 0 2 = cc in omega arith

kept_leaks : KeptBounded keeping → ⊥
kept_leaks bounded =
    let e : shown (answer two keeping (keep_run keeping (opening keeping) (drive 0 1 ∷ drive 1 1 ∷ clock ∷ drive 0 0 ∷ [])) 0 2)
    ≡ shown (answer two keeping (keep_run keeping (opening keeping) (drive 0 1 ∷ clock ∷ drive 0 0 ∷ [])) 0 2) =
    ap shown (bounded 0 (drive 0 1 ∷ drive 1 1 ∷ clock ∷ drive 0 0 ∷ []) (drive 0 1 ∷ clock ∷ drive 0 0 ∷ []) refl 2) in
    let z : ◌≡◌ {A = ℕ} 1 0 = e in
    omega arith

pub leaks : Leaks
leaks = record {
  lattice = two_laws;
  whole = whole;
  conditions = (conditions_pass, leak copying 2 1 0 (λ e. omega arith) (drive 0 1 ∷ clock ∷ []) (clock ∷ []) refl refl refl);
  skipped = (skips_pass, leak skipping 1 2 0 (λ e. omega arith) (drive 0 1 ∷ clock ∷ []) (clock ∷ []) refl refl refl);
  no_level = (entries_pass, leak levelless 2 1 0 (λ e. omega arith) (drive 0 1 ∷ clock ∷ []) (clock ∷ []) refl refl refl);
  overlap = (overlaps_pass, leak overlapping 1 2 0 (λ e. omega arith) (drive 0 1 ∷ clock ∷ []) (clock ∷ []) refl refl refl);
  uncleared = (keeping_formed, keeping_typed, kept_leaks);
}
