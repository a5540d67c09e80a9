-- From what the checks find to what the judge's answer tells.
use Rattle.std.proofs.Common.{◌≡◌, ℕ, ◌<◌, Bool, true, false, not, List, [], ◌∷◌, sym, refl, ap, subst, inl, inr, arith}
use Rattle.refusal.specs.declared.Section.TheVariants.{Blocks}
use Rattle.refusal.specs.declared.Refusal.{Refusal}
use Rattle.lattice.specs.Meaning.{Meaning, Laws}
use Rattle.lattice.proofs.Lists.{all_append}
use Rattle.language.specs.Syntax.{Expr, Cmd, Design, idle, seq, choice, assign}
use Rattle.language.specs.Machine.{inside}
use Rattle.language.specs.Form.{Way, Each, Every, Formed}
use Rattle.language.specs.Typing.{Levelled, Flows, Stays, Anything, Reaches, Typed, sources, around}
use Rattle.language.specs.Finite.{Test12, Test13, Test14}
use Rattle.language.specs.Offences.{SomeAt, EachAt, SomeIn, EachIn, First, Shown, Breaks13, Breaks14}
use Rattle.language.proofs.Values.{all_sources}
use Rattle.language.proofs.Walks.{every_both, every_weaker}
use Rattle.language.proofs.Sane.{Sane, Inner, settled_sane, clocked_sane}
use Rattle.language.proofs.Exact.{test_to_12, test_from_12, test_to_13, test_to_14, test_from_14}
use Rattle.language.proofs.Offences.{offences_condemn}
use Rattle.language.proofs.Runs.{noninterference}
use Rattle.records.specs.Layouts.{File, count_in}
use Rattle.records.specs.Trees.{body_at, settled_at, design_of}
use Rattle.records.proofs.Designs.{settled_is, clocked_is}
use Rattle.flows.specs.declared.leaks.Leak.{Leak}
use Rattle.flows.specs.Findings.{Breach}
use Rattle.judgement.specs.Findings.{TablesFine, LabelsFine, Tests12, Finds, too_high, condition_high, BlocksPass, Leaks, Off14, Low14, Lowest14}
use Rattle.judgement.specs.Verdicts.{Accepts, Rejects}
use Rattle.judgement.proofs.Bodies.{all_bodies, some_bodies}

-- ---- at each assignment

module _ (C : Expr → Type 0) (A : List Way → ℕ → Expr → Type 0) (B D : List Way → ℕ → Expr → ℕ → Type 0)
    (f : (path : List Way) (u : ℕ) (e : Expr) (k : ℕ) → A path u e → B path u e k → D path u e k) where
  some_map : (path : List Way) (c : Cmd) → Each C A path c → SomeAt B path c → SomeAt D path c
  some_map path idle h k = k
  some_map path (seq a b) h (inl k) = inl (some_map path a h.0 k)
  some_map path (seq a b) h (inr k) = inr (some_map path b h.1 k)
  some_map path (choice e a b) h (inl k) = inl (some_map ((e, true) ∷ path) a h.1 k)
  some_map path (choice e a b) h (inr k) = inr (some_map ((e, false) ∷ path) b h.2 k)
  some_map path (assign u e place) h k = f path u e place h k

  some_in_map : (cs : List Cmd) → Every C A cs → SomeIn B cs → SomeIn D cs
  some_in_map [] h k = k
  some_in_map (c ∷ cs) h (inl k) = inl (some_map [] c h.0 k)
  some_in_map (c ∷ cs) h (inr k) = inr (some_in_map cs h.1 k)

  each_map : (path : List Way) (c : Cmd) → Each C A path c → EachAt B path c → EachAt D path c
  each_map path idle h k = tt
  each_map path (seq a b) h k = (each_map path a h.0 k.0, each_map path b h.1 k.1)
  each_map path (choice e a b) h k = (each_map ((e, true) ∷ path) a h.1 k.0, each_map ((e, false) ∷ path) b h.2 k.1)
  each_map path (assign u e place) h k = f path u e place h k

  each_in_map : (cs : List Cmd) → Every C A cs → EachIn B cs → EachIn D cs
  each_in_map [] h k = tt
  each_in_map (c ∷ cs) h k = (each_map [] c h.0 k.0, each_in_map cs h.1 k.1)

-- ---- 11 and 12

module _ (m : Meaning) (d : Design) where
  pub levelled_by : TablesFine m d → LabelsFine m d → Levelled m d
  levelled_by tables labels = record { entries = tables; labels = labels }

  pub selector_told : Formed d → Levelled m d → (f : Refusal) → Finds too_high (First (Test12 m d)) f → Rejects m d f
  selector_told formed levelled f x =
      let first : First (Reaches m d) x.at = record {
        here = λ rule. x.found.here (test_from_12 m d x.at rule);
        lower = λ k h. test_to_12 m d formed k (x.found.lower k h);
      } in
      subst (Rejects m d) (sym x.is) (record { untyped = (offences_condemn m d).selector x.at first; tells = (levelled, first) })

  reaches_by : Formed d → Tests12 m d → (v : ℕ) → Reaches m d v
  reaches_by formed tests v = test_to_12 m d formed v (tests v)

  -- a test at each assignment of some blocks gives the rule there
  rules : (T R : List Way → ℕ → Expr → Type 0) → ((path : List Way) (u : ℕ) (e : Expr) → Sane d path u e → T path u e → R path u e)
      → (cs : List Cmd) → Every (Inner d) (Sane d) cs → Every Anything T cs → Every Anything R cs
  rules T R f cs h k =
      every_weaker (λ e. Inner d e × Anything e) Anything (λ p u e. Sane d p u e × T p u e) R (λ e h. tt) (λ p u e h. f p u e h.0 h.1) cs
      (every_both (Inner d) Anything (Sane d) T cs h k)

-- ---- 13 and 14

module _ (m : Meaning) (laws : Laws m) (file : File) (formed : Formed (design_of file)) (levelled : Levelled m (design_of file)) (tests : Tests12 m (design_of file)) where
  abbrev d : Design
  d = design_of file

  abbrev At13 : (n a b : ℕ) → List Way → ℕ → Expr → ℕ → Type 0
  At13 n a b path u e k = (k ≡ n) × Shown m d a b path u e

  shown : (b : Leak) (path : List Way) (u : ℕ) (e : Expr) (k : ℕ) → Sane d path u e → Breach m d b path u e k → At13 b.command b.flow b.target path u e k
  shown b path u e k sane x =
      (x.here, x.shown (all_append (λ v. inside d v ≡ true) (sources e) (around path) (all_sources (λ v. inside d v ≡ true) e sane.source.reads) sane.conditions))

  broken : (b : Leak) (n : ℕ) → n < count_in file Blocks → SomeAt (Breach m d b) [] (body_at file n) → (s : Bool) → settled_at file n ≡ s → Breaks13 m d b.command b.flow b.target
  broken b n room x true is = inl
      (some_in_map (Inner d) (Sane d) (Breach m d b) (At13 b.command b.flow b.target) (shown b) d.settled (settled_sane d formed)
      (subst (SomeIn (Breach m d b)) (sym (settled_is file)) (some_bodies file (settled_at file) (Breach m d b) 0 (count_in file Blocks) n (omega arith) (omega (arith, room)) is x)))
  broken b n room x false is = inr
      (some_in_map (Inner d) (Sane d) (Breach m d b) (At13 b.command b.flow b.target) (shown b) d.clocked (clocked_sane d formed)
      (subst (SomeIn (Breach m d b)) (sym (clocked_is file)) (some_bodies file (λ k. not (settled_at file k)) (Breach m d b) 0 (count_in file Blocks) n (omega arith) (omega (arith, room)) (ap not is) x)))

  pub flow_told : (f : Refusal) → Leaks m file f → Rejects m d f
  flow_told f x =
      let b = x.leak in
      let it = broken b x.block x.inside x.found (settled_at file x.block) refl in
      subst (Rejects m d) (sym x.is) (record {
        untyped = (offences_condemn m d).flow b.command b.flow b.target it;
        tells = (levelled, reaches_by m d formed tests, it);
      })

  settled_flows : BlocksPass m file → Every Anything (Flows m d) d.settled
  settled_flows pass =
      rules m d (Test13 m d) (Flows m d) (test_to_13 m d laws formed levelled) d.settled (settled_sane d formed)
      (subst (Every Anything (Test13 m d)) (sym (settled_is file)) (all_bodies file (settled_at file) (Each Anything (Test13 m d) []) 0 (count_in file Blocks) (λ b i j e. pass b (omega arith))))

  clocked_flows : BlocksPass m file → Every Anything (Flows m d) d.clocked
  clocked_flows pass =
      rules m d (Test13 m d) (Flows m d) (test_to_13 m d laws formed levelled) d.clocked (clocked_sane d formed)
      (subst (Every Anything (Test13 m d)) (sym (clocked_is file)) (all_bodies file (λ b. not (settled_at file b)) (Each Anything (Test13 m d) []) 0 (count_in file Blocks) (λ b i j e. pass b (omega arith))))

  pub stay_told : BlocksPass m file → (f : Refusal) → Finds condition_high (Lowest14 m d) f → Rejects m d f
  stay_told pass f x =
      let n = x.at in
      let it : Breaks14 m d n = record {
        here = some_in_map (Inner d) (Sane d) (Off14 m d n) (λ path u e k. (k ≡ n) × (Stays m d path u e → ⊥))
            (λ path u e k sane y. (y.0, λ rule. y.1 (test_from_14 m d laws formed levelled path u e rule))) d.clocked (clocked_sane d formed) x.found.here;
        lower = each_in_map (Inner d) (Sane d) (Low14 m d n) (λ path u e k. k < n → Stays m d path u e)
            (λ path u e k sane y h. test_to_14 m d laws formed levelled path u e sane (y h)) d.clocked (clocked_sane d formed) x.found.lower;
      } in
      subst (Rejects m d) (sym x.is) (record {
        untyped = (offences_condemn m d).condition n it;
        tells = (levelled, reaches_by m d formed tests, settled_flows pass, clocked_flows pass, it);
      })

  pub accepted : BlocksPass m file → Every Anything (Test14 m d) d.clocked → Accepts m d
  accepted pass stays =
      let typed : Typed m d = record {
        levelled = levelled;
        reaches = reaches_by m d formed tests;
        settled_flows = settled_flows pass;
        clocked_flows = clocked_flows pass;
        stays = rules m d (Test14 m d) (Stays m d) (test_to_14 m d laws formed levelled) d.clocked (clocked_sane d formed) stays;
      } in
      record { typed = typed; secure = noninterference m d laws formed typed }
