-- The first refusal, and what no refusal means.
use Rattle.std.proofs.Common.{◌≡◌, ℕ, zero, suc, ◌+◌, ◌<◌, Bool, true, false, cond, Some, None, Ok, Err, Option, Result, MatchResult, sym, refl, ap, ◌∙◌, subst, inr, ⊎_elim, true≢false, arith}
use Rattle.std.proofs.lemmas.Bool.{cases_lt, or_parts, not-false, false_from_ne_true}
use Rattle.refusal.specs.declared.Section.{Section}
use Rattle.refusal.specs.declared.Section.TheVariants.{Tables, Variables, Blocks, Commands, Expressions}
use Rattle.refusal.specs.declared.Refusal.{Refusal}
use Rattle.refusal.specs.Notice.{notice, section_number}
use Rattle.records.specs.declared.layout.Layout.{Layout}
use Rattle.records.specs.Layouts.{File, section_at, or_else, layout_of, count_in}
use Rattle.records.specs.Cells.{command_at, expression_at}
use Rattle.records.specs.Trees.{settled_at}
use Rattle.survey.specs.Uses.{command_used, expr_used}
use Rattle.survey.specs.Sums.{any}
use Rattle.survey.proofs.Counting.{any_false_at}
use Rattle.rules.specs.declared.Rule.{Rule}
use Rattle.rules.specs.declared.Rule.TheVariants.{Range, Use, Width, Assignment, Reading, Selector}
use Rattle.rules.specs.Parts.{differ, command_high, expr_high}
use Rattle.rules.specs.Blocks.{clocked_at}
use Rattle.rules.specs.Rules.{offends}
use Rattle.rules.specs.First.{refusal_of, first, refused_at, refused_in, refused_by, rule_at, form_refusal, checked}
use Rattle.design.specs.First.{under}
use Rattle.design.specs.Right.{Right, Quiet, Before, First, Refused, Says}
use Rattle.design.proofs.Fits.{not_differ, second}
use Rattle.design.proofs.Forms.{formed}
use Rattle.design.proofs.Backward.{quiet_back}

-- ---- the first that numbers give

abbrev is_none : {A : Type 0} → Option A → Bool
is_none None = true
is_none (Some x) = false

some_none : {A : Type 0} (x : A) → Some x ≡ None → ⊥
some_none x e = true≢false (sym (ap is_none e))

left_none : {A : Type 0} (o p : Option A) → or_else o p ≡ None → o ≡ None
left_none None p e = refl
left_none (Some x) p e = e

right_none : {A : Type 0} (o p : Option A) → or_else o p ≡ None → p ≡ None
right_none None p e = e
right_none (Some x) p e = absurd (some_none x e)

none_at : {A : Type 0} (g : ℕ → Option A) (n k : ℕ) → first g n ≡ None → k < n → g k ≡ None
unfolding first
none_at g zero k e h = absurd (omega arith)
none_at g (suc n) k e h =
    ⊎_elim
    (λ lt. none_at g n k (left_none (first g n) (g n) e) lt)
    (λ ge. let z : n ≡ k = omega arith in subst (λ m. g m ≡ None) z (right_none (first g n) (g n) e))
    (cases_lt k n)

record Least {A : Type 0} (g : ℕ → Option A) (n : ℕ) (x : A) : Type 0 where
  at : ℕ
  low : at < n
  gives : g at ≡ Some x
  before : (j : ℕ) → j < at → g j ≡ None

least : {A : Type 0} (g : ℕ → Option A) (n : ℕ) (x : A) → first g n ≡ Some x → Least g n x
unfolding first
least g zero x e = absurd (some_none x (sym e))
least {A} g (suc n) x e = by (first g n) refl (λ h. least g n x h)
  where
    by : (o : Option A) → first g n ≡ o → (first g n ≡ Some x → Least g n x) → Least g (suc n) x
    by None is ih = record { at = n; low = omega arith; gives = sym (ap (λ o. or_else o (g n)) is) ∙ e; before = λ j lt. none_at g n j is lt }
    by (Some y) is ih =
        let r = ih (is ∙ sym (ap (λ o. or_else o (g n)) is) ∙ e) in
        record { at = r.at; low = omega (arith, r.low); gives = r.gives; before = r.before }

taken : {A : Type 0} (b : Bool) (x y : A) → cond b (Some x) None ≡ Some y → (b ≡ true) × (Some x ≡ Some y)
taken true x y e = (refl, e)
taken false x y e = absurd (some_none y (sym e))

no_offence : {A : Type 0} (b : Bool) (x : A) → cond b (Some x) None ≡ None → b ≡ false
no_offence true x e = absurd (some_none x e)
no_offence false x e = refl

abbrev unsome : {A : Type 0} → A → Option A → A
unsome d (Some x) = x
unsome d None = d

-- ---- rules and sections by their places

abbrev rule_index : Rule → ℕ
rule_index Range = 0
rule_index Use = 1
rule_index Width = 2
rule_index Assignment = 3
rule_index Reading = 4
rule_index Selector = 5

rule_low : (k : Rule) → rule_index k < 6
rule_low Range = omega arith
rule_low Use = omega arith
rule_low Width = omega arith
rule_low Assignment = omega arith
rule_low Reading = omega arith
rule_low Selector = omega arith

rule_back : (k : Rule) → rule_at (rule_index k) ≡ k
rule_back Range = refl
rule_back Use = refl
rule_back Width = refl
rule_back Assignment = refl
rule_back Reading = refl
rule_back Selector = refl

rule_there : (k : ℕ) → k < 6 → rule_index (rule_at k) ≡ k
rule_there zero h = refl
rule_there (suc zero) h = refl
rule_there (suc (suc zero)) h = refl
rule_there (suc (suc (suc zero))) h = refl
rule_there (suc (suc (suc (suc zero)))) h = refl
rule_there (suc (suc (suc (suc (suc zero))))) h = refl
rule_there (suc (suc (suc (suc (suc (suc k)))))) h = absurd (omega arith)

section_low : (s : Section) → section_number s < 5
section_low Tables = omega arith
section_low Variables = omega arith
section_low Blocks = omega arith
section_low Commands = omega arith
section_low Expressions = omega arith

section_back : (s : Section) → section_at (section_number s) ≡ s
section_back Tables = refl
section_back Variables = refl
section_back Blocks = refl
section_back Commands = refl
section_back Expressions = refl

section_there : (i : ℕ) → i < 5 → section_number (section_at i) ≡ i
section_there zero h = refl
section_there (suc zero) h = refl
section_there (suc (suc zero)) h = refl
section_there (suc (suc (suc zero))) h = refl
section_there (suc (suc (suc (suc zero)))) h = refl
section_there (suc (suc (suc (suc (suc k))))) h = absurd (omega arith)

-- a refusal's number is its rule's
number_is : (k : Rule) (s : Section) (n : ℕ) → (notice (refusal_of k s n)).number ≡ rule_index k + 5
number_is Range s n = refl
number_is Use s n = refl
number_is Width s n = refl
number_is Assignment s n = refl
number_is Reading s n = refl
number_is Selector s n = refl

record_is : (k : Rule) (s : Section) (n : ℕ) → (notice (refusal_of k s n)).«record» ≡ n
record_is Range s n = refl
record_is Use s n = refl
record_is Width s n = refl
record_is Assignment s n = refl
record_is Reading s n = refl
record_is Selector s n = refl

module _ (f : File) where
  -- a record that breaks a rule is named with its own section
  section_is : (k : Rule) (s : Section) (n : ℕ) → offends f k s n ≡ true → (notice (refusal_of k s n)).section ≡ section_number s
  section_is Range s n e = refl
  section_is Use s n e = refl
  section_is Width s n e = refl
  section_is Assignment s n e = refl
  section_is Reading Tables n e = absurd (true≢false (sym e))
  section_is Reading Variables n e = absurd (true≢false (sym e))
  section_is Reading Blocks n e = absurd (true≢false (sym e))
  section_is Reading Commands n e = absurd (true≢false (sym e))
  section_is Reading Expressions n e = refl
  section_is Selector Tables n e = absurd (true≢false (sym e))
  section_is Selector Variables n e = refl
  section_is Selector Blocks n e = absurd (true≢false (sym e))
  section_is Selector Commands n e = absurd (true≢false (sym e))
  section_is Selector Expressions n e = absurd (true≢false (sym e))

  by_none : (k : Rule) (s : Section) (n : ℕ) → refused_by f k ≡ None → n < count_in f s → offends f k s n ≡ false
  by_none k s n e h =
      let at = subst (λ x. refused_in f k x ≡ None) (section_back s) (none_at (λ i. refused_in f k (section_at i)) 5 (section_number s) e (section_low s)) in
      no_offence (offends f k s n) _ (none_at (refused_at f k s) (count_in f s) n at h)

  quiet_when : form_refusal f ≡ None → Quiet f
  quiet_when e k s n h = by_none k s n (subst (λ x. refused_by f x ≡ None) (rule_back k) (none_at (λ j. refused_by f (rule_at j)) 6 (rule_index k) e (rule_low k))) h

  -- the first place that offends
  made : (k i n : ℕ) → k < 6 → i < 5 → n < count_in f (section_at i) → offends f (rule_at k) (section_at i) n ≡ true
      → ((j : ℕ) → j < k → refused_by f (rule_at j) ≡ None)
      → ((j : ℕ) → j < i → refused_in f (rule_at k) (section_at j) ≡ None)
      → ((j : ℕ) → j < n → refused_at f (rule_at k) (section_at i) j ≡ None)
      → First f (refusal_of (rule_at k) (section_at i) n)
  made k i n hk hi hn off bk bi bn = record {
    rule = rule_at k;
    section = section_at i;
    place = n;
    inside = hn;
    named = refl;
    offender = off;
    none_before = λ c s m h before. false_from_ne_true (offends f c s m) (λ e. earlier c s m h e before);
  }
    where
      clash : (c : Rule) (s : Section) (m : ℕ) → offends f c s m ≡ true → offends f c s m ≡ false → ⊥
      clash c s m e z = true≢false (sym e ∙ z)

      same_rule : (c : Rule) → rule_index c ≡ k → c ≡ rule_at k
      same_rule c e = sym (rule_back c) ∙ ap rule_at e

      same_section : (s : Section) → section_number s ≡ i → s ≡ section_at i
      same_section s e = sym (section_back s) ∙ ap section_at e

      earlier : (c : Rule) (s : Section) (m : ℕ) → m < count_in f s → offends f c s m ≡ true → Before (notice (refusal_of c s m)) (notice (refusal_of (rule_at k) (section_at i) n)) → ⊥
      earlier c s m h e before =
          let nc = number_is c s m in
          let nk = number_is (rule_at k) (section_at i) n in
          let tk = rule_there k hk in
          let sc = section_is c s m e in
          let sk = section_is (rule_at k) (section_at i) n off in
          let ti = section_there i hi in
          ⊎_elim
          (λ (lt : (notice (refusal_of c s m)).number < (notice (refusal_of (rule_at k) (section_at i) n)).number).
          let low : rule_index c < k = omega (arith, nc, nk, tk, lt) in
          clash c s m e (by_none c s m (subst (λ x. refused_by f x ≡ None) (rule_back c) (bk (rule_index c) low)) h))
          (λ rest.
          let rule : rule_index c ≡ k = omega (arith, nc, nk, tk, rest.0) in
          let is = same_rule c rule in
          ⊎_elim
          (λ (lt : (notice (refusal_of c s m)).section < (notice (refusal_of (rule_at k) (section_at i) n)).section).
          let low : section_number s < i = omega (arith, sc, sk, ti, lt) in
          let none : refused_in f (rule_at k) s ≡ None = subst (λ x. refused_in f (rule_at k) x ≡ None) (section_back s) (bi (section_number s) low) in
          clash c s m e (no_offence (offends f c s m) _ (none_at (refused_at f c s) (count_in f s) m (subst (λ x. refused_in f x s ≡ None) (sym is) none) h)))
          (λ last.
          let sec : section_number s ≡ i = omega (arith, sc, sk, ti, last.0) in
          let low : m < n = subst (λ x. x < n) (record_is c s m) (subst (λ x. (notice (refusal_of c s m)).«record» < x) (record_is (rule_at k) (section_at i) n) last.1) in
          let none = subst (λ x. refused_at f (rule_at k) x m ≡ None) (sym (same_section s sec)) (bn m low) in
          clash c s m e (no_offence (offends f c s m) _ (subst (λ x. refused_at f x s m ≡ None) (sym is) none)))
          rest.1)
          before

  first_is : (r : Refusal) → form_refusal f ≡ Some r → First f r
  first_is r e =
      let a = least (λ k. refused_by f (rule_at k)) 6 r e in
      let b = least (λ i. refused_in f (rule_at a.at) (section_at i)) 5 r a.gives in
      let c = least (refused_at f (rule_at a.at) (section_at b.at)) (count_in f (section_at b.at)) r b.gives in
      let t = taken (offends f (rule_at a.at) (section_at b.at) c.at) _ r c.gives in
      subst (First f) (ap (unsome r) t.1) (made a.at b.at c.at a.low b.low c.low t.0 a.before b.before c.before)

  right_when : Quiet f → Right f
  right_when q = record {
    ranges = q Range;
    uses = record {
      commands = λ n h. not_differ (command_used f n) 1 (or_parts (differ (command_used f n) 1) (command_high (command_at f n) n) (q Use Commands n h)).0;
      parts = λ n h. (or_parts (differ (command_used f n) 1) (command_high (command_at f n) n) (q Use Commands n h)).1;
      expressions = λ n h. not_differ (expr_used f n) 1 (or_parts (differ (expr_used f n) 1) (expr_high (expression_at f n) n) (q Use Expressions n h)).0;
      operands = λ n h. (or_parts (differ (expr_used f n) 1) (expr_high (expression_at f n) n) (q Use Expressions n h)).1;
    };
    ordered = λ b c lt h s. not-false (settled_at f b) (any_false_at (clocked_at f) c b (second (settled_at f c) (any (clocked_at f) c) (q Assignment Blocks c h) s) lt);
    formed = formed f q;
  }

  pub says : Says f (form_refusal f)
  says = by (form_refusal f) refl
    where
      by : (o : Option Refusal) → form_refusal f ≡ o → Says f o
      by None e = right_when (quiet_when e)
      by (Some r) e = let x = first_is r e in (x, λ right. true≢false (sym x.offender ∙ quiet_back f right x.rule x.section x.place x.inside))

-- a file whose layout stands, refused by a record
abbrev layout_in : Layout → Result Layout Refusal → Layout
layout_in l (Ok m) = m
layout_in l (Err r) = l

pub refused_by_first : (f : File) (r : Refusal) → layout_of f.bytes ≡ Ok f.layout → Says f (Some r) → Refused f.bytes r
refused_by_first f r e x = record {
  first = inr (f.layout, e, x.0);
  not_accepted = λ m a. x.1 (subst (λ l. Right (under f.bytes l)) (ap (layout_in f.layout) (sym a.layout ∙ e)) a.right);
}

-- what the check of a file's records tells
pub tells : (f : File) (r : Result (Unit {0}) Refusal) → r ≡ checked (form_refusal f) → MatchResult r (λ _. Right f) (λ e. layout_of f.bytes ≡ Ok f.layout → Refused f.bytes e)
tells f r is = subst (λ x. MatchResult x (λ _. Right f) (λ e. layout_of f.bytes ≡ Ok f.layout → Refused f.bytes e)) (sym is) (by (form_refusal f) (says f))
  where
    by : (o : Option Refusal) → Says f o → MatchResult (checked o) (λ _. Right f) (λ e. layout_of f.bytes ≡ Ok f.layout → Refused f.bytes e)
    by None right = right
    by (Some e) first = λ stands. refused_by_first f e stands first
