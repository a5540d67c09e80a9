-- The tests pass where the rules hold, and only there.
use Rattle.std.proofs.Common.{◌≡◌, ℕ, ◌^◌, ◌<◌, ◌≤◌, Bool, true, false, cond, eqb, leb, List, [], ◌++◌, length, get_or, sym, refl, ap, ◌∙◌, subst, subst₂, ⊎_elim, arith, pow_pos}
use Rattle.std.proofs.lemmas.Bool.{eqb-true, eqb-false, cases_lt, lt-ltb, both_ways, leb-true, leb-false}
use Rattle.std.proofs.lemmas.List.{get_or_past}
use Rattle.lattice.specs.Meaning.{Meaning, Below, Laws}
use Rattle.language.specs.Syntax.{Expr, Cmd, Label, Design, Variable, fixed, looked_up, count, var, entry}
use Rattle.language.specs.Machine.{Valuation, put, level, level_by, inside}
use Rattle.language.specs.Form.{Way, Every, Formed}
use Rattle.language.specs.Typing.{Shape, number, single, other, shape, allows, Fits, Allowed, sources, around, Coming, Flows, Stays, Reaches, TableLevels, LabelLevel, Levelled, Anything, Typed}
use Rattle.language.specs.Finite.{Sets, May, Possible, Place, value_of, label_place, coming_place, target_by, target_place, Tries, level_at, Test12, Test13, Test14, Passes, TestsAreExact}
use Rattle.lattice.proofs.Lists.{all_append}
use Rattle.language.proofs.Lists.{all_from, all_at, put_same, put_other}
use Rattle.language.proofs.Joins.{flow_each, each_flow}
use Rattle.language.proofs.Walks.{every_both, every_weaker}
use Rattle.language.proofs.Values.{all_sources}
use Rattle.language.proofs.Levels.{level_is_level}
use Rattle.language.proofs.Mentions.{flow_mem, mem_flow, among_mem, mem_among}
use Rattle.language.proofs.Places.{small_value, Kept, Stands, one, fill, fill_fits, fill_kept, fill_stands, still_stands, stands_level, some_coming}
use Rattle.language.proofs.Sane.{var_none, Sane, Suits, Inner, suits, label_inside, settled_sane, clocked_sane}

-- ---- what a valuation of the rules reads

record Read (d : Design) (sets : Sets) (ρ : Valuation) (p : Place) (l : ℕ) : Type 0 where
  at : ℕ
  tries : Tries d sets p at
  stands : Stands ρ p at
  is : level_at d p at ≡ l

module _ (d : Design) (formed : Formed d) (path : List Way) (ρ : Valuation) (fits : Fits d ρ) (allowed : Allowed d path ρ) where
  may : (s : ℕ) → inside d s ≡ true → (var d s).width ≤ 4 → May d (allows path) s (ρ s)
  may s h k = record { variable = h; small = small_value (ρ s) (var d s).width k (fits s); fits = fits s; left = allowed s h k }

  possible : Possible d (allows path)
  possible v h k = (ρ v, may v h k)

  read_value : (t s : ℕ) → inside d s ≡ true → (var d s).width ≤ 4 → Read d (allows path) ρ (value_of t s) (entry d t (ρ s))
  read_value t s h k = record { at = ρ s; tries = may s h k; stands = refl; is = refl }

  read_level : (v : ℕ) → Read d (allows path) ρ (label_place (var d v).label) (level d ρ v)
  read_level v = go (var d v).label refl
    where
      go : (l : Label) → (var d v).label ≡ l → Read d (allows path) ρ (label_place l) (level_by d ρ l)
      go (fixed l) e = record { at = 0; tries = refl; stands = tt; is = refl }
      go (looked_up t s) e = read_value t s (formed.selectors v t s e).names (formed.selectors v t s e).narrow

  read_coming : (u t x : ℕ) (e : Shape) → (var d u).width ≤ 4 → Suits d u e → Coming ρ (var d u).width e x → Read d (allows path) ρ (coming_place d t (var d u).width e) (entry d t x)
  read_coming u t x (number n) narrow suits h = record { at = 0; tries = refl; stands = tt; is = ap (entry d t) (sym h) }
  read_coming u t x (single v) narrow suits h =
      subst (λ n. Read d (allows path) ρ (value_of t v) (entry d t n)) (sym h) (read_value t v suits.0 (subst (λ n. n ≤ 4) (sym suits.1) narrow))
  read_coming u t x other narrow suits h = record { at = x; tries = (small_value x (var d u).width narrow h, h); stands = tt; is = refl }

  read_target : (u x : ℕ) (e : Shape) → Suits d u e → Coming ρ (var d u).width e x → Read d (allows path) ρ (target_place d u e) (level d (put ρ u x) u)
  read_target u x e suits h = go (var d u).label refl
    where
      by : (t s : ℕ) → (var d u).label ≡ looked_up t s → (b : Bool) → eqb s u ≡ b
          → Read d (allows path) ρ (cond b (coming_place d t (var d u).width e) (value_of t s)) (entry d t (put ρ u x s))
      by t s f true k =
          let p : s ≡ u = eqb-true s u k in
          subst (λ n. Read d (allows path) ρ (coming_place d t (var d u).width e) (entry d t n)) (sym (ap (put ρ u x) p ∙ put_same ρ u x))
          (read_coming u t x e (subst (λ n. (var d n).width ≤ 4) p (formed.selectors u t s f).narrow) suits h)
      by t s f false k =
          subst (λ n. Read d (allows path) ρ (value_of t s) (entry d t n)) (sym (put_other ρ u x s (λ p. eqb-false s u k (sym p))))
          (read_value t s (formed.selectors u t s f).names (formed.selectors u t s f).narrow)

      go : (l : Label) → (var d u).label ≡ l → Read d (allows path) ρ (target_by d u e l) (level_by d (put ρ u x) l)
      go (fixed l) f = record { at = 0; tries = refl; stands = tt; is = refl }
      go (looked_up t s) f = by t s f (eqb s u) refl

-- ---- a valuation that the sets leave

module _ (d : Design) (sets : Sets) (possible : Possible d sets) where
  some_value : (v : ℕ) → (x : ℕ) × (x < 2 ^ (var d v).width) × (inside d v ≡ true → (var d v).width ≤ 4 → sets v x ≡ true)
  some_value v = go (inside d v) refl (leb (var d v).width 4) refl
    where
      go : (a : Bool) → inside d v ≡ a → (b : Bool) → leb (var d v).width 4 ≡ b
          → (x : ℕ) × (x < 2 ^ (var d v).width) × (inside d v ≡ true → (var d v).width ≤ 4 → sets v x ≡ true)
      go true h true k = let r = possible v h (leb-true (var d v).width 4 k) in (r.0, r.1.fits, λ i n. r.1.left)
      go true h false k = (0, pow_pos (var d v).width, λ i n. let g = leb-false (var d v).width 4 k in absurd (omega arith))
      go false h b k = (0, pow_pos (var d v).width, λ i n. absurd (both_ways (inside d v) h i))

  base : Valuation
  base v = (some_value v).0

  base_fits : Fits d base
  unfolding base
  base_fits v = (some_value v).1

  base_kept : Kept d sets base
  unfolding base
  base_kept v = (some_value v).2

-- ---- rule by rule

-- 11: every label and every entry is a level, if those that are there are
fixed_same : (a b : ℕ) → fixed a ≡ fixed b → a ≡ b
fixed_same a b h = cc

pub levelled_from : (m : Meaning) → Laws m → (d : Design) → ((t : ℕ) → t < length d.tables → TableLevels m d t) → ((v : ℕ) → inside d v ≡ true → LabelLevel m d v) → Levelled m d
levelled_from m laws d tables labels = record {
  labels = λ v l e. ⊎_elim (λ h. labels v (lt-ltb v (count d) h) l e)
      (λ h. subst (λ n. n < m.count) (fixed_same 0 l (sym (ap (λ (x : Variable). x.label) (var_none d v h)) ∙ e)) laws.order.some) (cases_lt v (count d));
  entries = λ t i. ⊎_elim (λ h. tables t h i)
      (λ h. subst (λ n. n < m.count) (sym (ap (λ xs. get_or xs i 0) (get_or_past d.tables t [] h) ∙ get_or_past [] i 0 (omega arith))) laws.order.some) (cases_lt t (length d.tables));
}

pub test_to_12 : (m : Meaning) (d : Design) → Formed d → (v : ℕ) → Test12 m d v → Reaches m d v
test_to_12 m d formed v test t s l e f x h = test t s l e f x (small_value x (var d s).width (formed.selectors v t s e).narrow h) h

pub test_from_12 : (m : Meaning) (d : Design) (v : ℕ) → Reaches m d v → Test12 m d v
test_from_12 m d v rule t s l e f x small h = rule t s l e f x h

module _ (m : Meaning) (d : Design) (laws : Laws m) (formed : Formed d) (levelled : Levelled m d) where
  pub test_to_13 : (path : List Way) (u : ℕ) (e : Expr) → Sane d path u e → Test13 m d path u e → Flows m d path u e
  test_to_13 path u e fine test ρ fits allowed x h =
      let goal = level d (put ρ u x) u in
      each_flow m laws (level d ρ) (level_is_level m d levelled ρ) (sources e ++ around path) goal (level_is_level m d levelled (put ρ u x) u)
      (all_from (λ v. Below m (level d ρ v) goal) (sources e ++ around path) (λ v mem.
      let i = all_at (λ v. inside d v ≡ true) (sources e ++ around path) v
      (all_append (λ v. inside d v ≡ true) (sources e) (around path) (all_sources (λ v. inside d v ≡ true) e fine.source.reads) fine.conditions) mem in
      let a = read_level d formed path ρ fits allowed v in
      let b = read_target d formed path ρ fits allowed u x (shape e) (suits d u e fine.source) h in
      subst₂ (Below m) a.is b.is
      (test (possible d formed path ρ fits allowed) v i (mem_flow e path v mem) a.at b.at a.tries b.tries
      (one ρ (label_place (var d v).label) (target_place d u (shape e)) a.at b.at a.stands b.stands))))

  pub test_from_13 : (path : List Way) (u : ℕ) (e : Expr) → Flows m d path u e → Test13 m d path u e
  test_from_13 path u e flows possible v i k x y h j o =
      let p = label_place (var d v).label in
      let q = target_place d u (shape e) in
      let s = allows path in
      let β = base d s possible in
      let ρ = fill q (fill p β x) y in
      let fits : Fits d ρ = fill_fits d s q (fill p β x) y j (fill_fits d s p β x h (base_fits d s possible)) in
      let allowed : Allowed d path ρ = fill_kept d s q (fill p β x) y j (fill_kept d s p β x h (base_kept d s possible)) in
      let here : level d ρ v ≡ level_at d p x = stands_level d ρ (var d v).label x (still_stands p q (fill p β x) x y o (fill_stands p β x)) in
      let c = some_coming d s ρ u y (shape e) j (fill_stands q (fill p β x) y) in
      let goal = level d (put ρ u c.0) u in
      let all = flow_each m laws (level d ρ) (level_is_level m d levelled ρ) (sources e ++ around path) goal (flows ρ fits allowed c.0 c.1) in
      subst₂ (Below m) here c.2 (all_at (λ s. Below m (level d ρ s) goal) (sources e ++ around path) v all (flow_mem e path v k))

  pub test_to_14 : (path : List Way) (u : ℕ) (e : Expr) → Sane d path u e → Test14 m d path u e → Stays m d path u e
  test_to_14 path u e fine test t own off ρ fits allowed =
      each_flow m laws (level d ρ) (level_is_level m d levelled ρ) (around path) (level d ρ u) (level_is_level m d levelled ρ u)
      (all_from (λ v. Below m (level d ρ v) (level d ρ u)) (around path) (λ v mem.
      let i = all_at (λ v. inside d v ≡ true) (around path) v fine.conditions mem in
      let a = read_level d formed path ρ fits allowed v in
      let b = read_value d formed path ρ fits allowed t u (formed.selectors u t u own).names (formed.selectors u t u own).narrow in
      subst₂ (Below m) a.is (b.is ∙ sym (ap (level_by d ρ) own))
      (test t own off (possible d formed path ρ fits allowed) v i (mem_among path v mem) a.at b.at a.tries b.tries
      (one ρ (label_place (var d v).label) (value_of t u) a.at b.at a.stands b.stands))))

  pub test_from_14 : (path : List Way) (u : ℕ) (e : Expr) → Stays m d path u e → Test14 m d path u e
  test_from_14 path u e stays t own off possible v i k x y h j o =
      let p = label_place (var d v).label in
      let q = value_of t u in
      let s = allows path in
      let β = base d s possible in
      let ρ = fill q (fill p β x) y in
      let fits : Fits d ρ = fill_fits d s q (fill p β x) y j (fill_fits d s p β x h (base_fits d s possible)) in
      let allowed : Allowed d path ρ = fill_kept d s q (fill p β x) y j (fill_kept d s p β x h (base_kept d s possible)) in
      let here : level d ρ v ≡ level_at d p x = stands_level d ρ (var d v).label x (still_stands p q (fill p β x) x y o (fill_stands p β x)) in
      let there : level d ρ u ≡ level_at d q y = ap (level_by d ρ) own ∙ ap (entry d t) (sym (fill_stands q (fill p β x) y)) in
      let all = flow_each m laws (level d ρ) (level_is_level m d levelled ρ) (around path) (level d ρ u) (stays t own off ρ fits allowed) in
      subst₂ (Below m) here there (all_at (λ s. Below m (level d ρ s) (level d ρ u)) (around path) v all (among_mem path v k))

  -- a test at each assignment of some blocks gives the rule there
  rules : (T R : List Way → ℕ → Expr → Type 0) → ((path : List Way) (u : ℕ) (e : Expr) → Sane d path u e → T path u e → R path u e)
      → (cs : List Cmd) → Every (Inner d) (Sane d) cs → Every Anything T cs → Every Anything R cs
  rules T R f cs h k =
      every_weaker (λ e. Inner d e × Anything e) Anything (λ p u e. Sane d p u e × T p u e) R (λ e h. tt) (λ p u e h. f p u e h.0 h.1) cs
      (every_both (Inner d) Anything (Sane d) T cs h k)

  typed_from : Passes m d → Typed m d
  typed_from p = record {
    levelled = levelled;
    reaches = λ v t s l e. test_to_12 m d formed v (p.reaches v (label_inside d v t s e)) t s l e;
    settled_flows = rules (Test13 m d) (Flows m d) test_to_13 d.settled (settled_sane d formed) p.settled_flows;
    clocked_flows = rules (Test13 m d) (Flows m d) test_to_13 d.clocked (clocked_sane d formed) p.clocked_flows;
    stays = rules (Test14 m d) (Stays m d) test_to_14 d.clocked (clocked_sane d formed) p.stays;
  }

  passes_from : Typed m d → Passes m d
  passes_from t = record {
    tables = λ k h. t.levelled.entries k;
    labels = λ v h. t.levelled.labels v;
    reaches = λ v i. test_from_12 m d v (t.reaches v);
    settled_flows = every_weaker Anything Anything (Flows m d) (Test13 m d) (λ e h. h) test_from_13 d.settled t.settled_flows;
    clocked_flows = every_weaker Anything Anything (Flows m d) (Test13 m d) (λ e h. h) test_from_13 d.clocked t.clocked_flows;
    stays = every_weaker Anything Anything (Stays m d) (Test14 m d) (λ e h. h) test_from_14 d.clocked t.stays;
  }

pub tests_are_exact : TestsAreExact
tests_are_exact m d laws formed = (
  (λ p. typed_from m d laws formed (levelled_from m laws d p.tables p.labels) p),
  (λ t. passes_from m d laws formed t.levelled t),
)
