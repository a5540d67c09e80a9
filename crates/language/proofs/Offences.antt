-- A design that breaks a rule is not typed.
use Rattle.std.proofs.Common.{◌≡◌, ℕ, true, false, List, [], ◌∷◌, sym, subst, inl, inr, ⊎_elim}
use Rattle.std.proofs.lemmas.Bool.{both_ways}
use Rattle.lattice.specs.Meaning.{Meaning, Below}
use Rattle.language.specs.Syntax.{Expr, Cmd, Design, idle, seq, choice, assign}
use Rattle.language.specs.Form.{Way, Each, Every}
use Rattle.language.specs.Typing.{Flows, Stays, Anything}
use Rattle.language.specs.Offences.{SomeAt, SomeIn, Shown, OffencesCondemn}

-- a rule that some assignment breaks does not hold of each
module _ (R : List Way → ℕ → Expr → Type 0) (B : List Way → ℕ → Expr → ℕ → Type 0) (clash : (path : List Way) (u : ℕ) (e : Expr) (k : ℕ) → R path u e → B path u e k → ⊥) where
  not_each : (path : List Way) (c : Cmd) → Each Anything R path c → SomeAt B path c → ⊥
  not_each path idle h k = k
  not_each path (seq a b) h (inl k) = not_each path a h.0 k
  not_each path (seq a b) h (inr k) = not_each path b h.1 k
  not_each path (choice e a b) h (inl k) = not_each ((e, true) ∷ path) a h.1 k
  not_each path (choice e a b) h (inr k) = not_each ((e, false) ∷ path) b h.2 k
  not_each path (assign u e place) h k = clash path u e place h k

  not_every : (cs : List Cmd) → Every Anything R cs → SomeIn B cs → ⊥
  not_every [] h k = k
  not_every (c ∷ cs) h (inl k) = not_each [] c h.0 k
  not_every (c ∷ cs) h (inr k) = not_every cs h.1 k

module _ (m : Meaning) (d : Design) (n flow goal : ℕ) where
  leak : (path : List Way) (u : ℕ) (e : Expr) (k : ℕ) → Flows m d path u e → (k ≡ n) × Shown m d flow goal path u e → ⊥
  leak path u e k flows b =
      let s = b.1 in
      both_ways (m.below flow goal) s.not_below
      (subst (Below m flow) (sym s.goal_is) (flows s.values s.fits s.allowed s.coming s.comes flow s.flow_is))

pub offences_condemn : OffencesCondemn
offences_condemn m d = record {
  table = λ t f typed. f.here (typed.levelled.entries t);
  label = λ v f typed. f.here (typed.levelled.labels v);
  selector = λ v f typed. f.here (typed.reaches v);
  flow = λ n a b broken typed.
      let B : List Way → ℕ → Expr → ℕ → Type 0 = λ path u e k. (k ≡ n) × Shown m d a b path u e in
      ⊎_elim (not_every (Flows m d) B (leak m d n a b) d.settled typed.settled_flows) (not_every (Flows m d) B (leak m d n a b) d.clocked typed.clocked_flows) broken;
  condition = λ n broken typed.
      not_every (Stays m d) (λ path u e k. (k ≡ n) × (Stays m d path u e → ⊥)) (λ path u e k h b. b.1 h) d.clocked typed.stays broken.here;
}
