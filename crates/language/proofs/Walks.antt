-- What holds of each assignment of a command, and of each block.
use Rattle.std.proofs.Common.{◌≡◌, ℕ, true, false, List, [], ◌∷◌, sym, subst, ⊎_elim}
use Rattle.std.proofs.lemmas.Bool.{eqb-true, true≢false, or_cases}
use Rattle.language.specs.Syntax.{Expr, Cmd, idle, seq, choice, assign, together}
use Rattle.language.specs.Form.{Way, Each, Every, assigns}

module _ (C D : Expr → Type 0) (A B : List Way → ℕ → Expr → Type 0) where
  pub each_both : (path : List Way) (c : Cmd)
      → Each C A path c → Each D B path c → Each (λ e. C e × D e) (λ p u e. A p u e × B p u e) path c
  each_both path idle h k = tt
  each_both path (seq a b) h k = (each_both path a h.0 k.0, each_both path b h.1 k.1)
  each_both path (choice e a b) h k = ((h.0, k.0), each_both ((e, true) ∷ path) a h.1 k.1, each_both ((e, false) ∷ path) b h.2 k.2)
  each_both path (assign u e place) h k = (h, k)

  pub every_both : (cs : List Cmd) → Every C A cs → Every D B cs → Every (λ e. C e × D e) (λ p u e. A p u e × B p u e) cs
  every_both [] h k = tt
  every_both (c ∷ cs) h k = (each_both [] c h.0 k.0, every_both cs h.1 k.1)

  module _ (f : (e : Expr) → C e → D e) (g : (path : List Way) (u : ℕ) (e : Expr) → A path u e → B path u e) where
    pub each_weaker : (path : List Way) (c : Cmd) → Each C A path c → Each D B path c
    each_weaker path idle h = tt
    each_weaker path (seq a b) h = (each_weaker path a h.0, each_weaker path b h.1)
    each_weaker path (choice e a b) h = (f e h.0, each_weaker ((e, true) ∷ path) a h.1, each_weaker ((e, false) ∷ path) b h.2)
    each_weaker path (assign u e place) h = g path u e h

    pub every_weaker : (cs : List Cmd) → Every C A cs → Every D B cs
    every_weaker [] h = tt
    every_weaker (c ∷ cs) h = (each_weaker [] c h.0, every_weaker cs h.1)

module _ (C : Expr → Type 0) (A : List Way → ℕ → Expr → Type 0) where
  -- the blocks as one command
  pub each_together : (cs : List Cmd) → Every C A cs → Each C A [] (together cs)
  each_together [] h = tt
  each_together (c ∷ cs) h = (h.0, each_together cs h.1)

  -- a variable that is assigned has an assignment
  pub each_assigned : (v : ℕ) (path : List Way) (c : Cmd) → Each C A path c → assigns c v ≡ true → (way : List Way) × (e : Expr) × A way v e
  each_assigned v path idle h p = absurd (true≢false (sym p))
  each_assigned v path (seq a b) h p =
      ⊎_elim (λ q. each_assigned v path a h.0 q) (λ q. each_assigned v path b h.1 q) (or_cases (assigns a v) (assigns b v) p)
  each_assigned v path (choice e a b) h p =
      ⊎_elim (λ q. each_assigned v ((e, true) ∷ path) a h.1 q) (λ q. each_assigned v ((e, false) ∷ path) b h.2 q) (or_cases (assigns a v) (assigns b v) p)
  each_assigned v path (assign u e place) h p = (path, e, subst (λ n. A path n e) (eqb-true u v p) h)
