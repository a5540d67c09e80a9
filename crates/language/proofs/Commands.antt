-- Which assignment of a command writes a variable.
use Rattle.std.proofs.Common.{◌≡◌, ℕ, Bool, true, false, cond, eqb, ◌⊎◌, List, ◌∷◌, Some, None, Option, sym, refl, ap, ◌∙◌, subst, ap₂, inl, inr, ⊎_elim, arith}
use Rattle.std.specs.Option.{option_or}
use Rattle.std.proofs.lemmas.Bool.{eqb-true, or_parts, or_cases, and_parts, true≢false, cases_Bool}
use Rattle.lattice.specs.Meaning.{All}
use Rattle.language.specs.Syntax.{Expr, Cmd, idle, seq, choice, assign}
use Rattle.language.specs.Machine.{Valuation, eval, written}
use Rattle.language.specs.Form.{Way, Each, assigns, always, Apart}

pub none≢some : (o : Option ℕ) (x : ℕ) → o ≡ None → o ≡ Some x → ⊥
none≢some o x p q = let z : ◌≡◌ {A = ℕ} 0 1 = cc in omega arith

-- what is not assigned is not written
pub not_written : (ρ : Valuation) (v : ℕ) (c : Cmd) → assigns c v ≡ false → written ρ v c ≡ None
not_written ρ v idle h = refl
not_written ρ v (seq a b) h =
    let p = or_parts (assigns a v) (assigns b v) h in
    ap₂ option_or (not_written ρ v b p.1) (not_written ρ v a p.0)
not_written ρ v (choice e a b) h =
    let p = or_parts (assigns a v) (assigns b v) h in
    ap₂ (cond (eqb (eval ρ e) 1)) (not_written ρ v a p.0) (not_written ρ v b p.1) ∙ same (eqb (eval ρ e) 1)
  where
    same : (t : Bool) → ◌≡◌ {A = Option ℕ} (cond t None None) None
    same true = refl
    same false = refl
not_written ρ v (assign u e place) h = ap (λ t. cond t (Some (eval ρ e)) None) h

pub assigned : (ρ : Valuation) (v : ℕ) (c : Cmd) (x : ℕ) → written ρ v c ≡ Some x → assigns c v ≡ true
assigned ρ v c x h = ⊎_elim (λ p. p) (λ p. absurd (none≢some (written ρ v c) x (not_written ρ v c p) h)) (cases_Bool (assigns c v))

-- what is assigned on every path is written
always_seq : (x y : Option ℕ) → (x ≡ None → ⊥) ⊎ (y ≡ None → ⊥) → option_or y x ≡ None → ⊥
always_seq x (Some b) h p = none≢some (Some b) b p refl
always_seq x None (inl f) p = f p
always_seq x None (inr f) p = f refl

always_choice : (t : Bool) (x y : Option ℕ) → (x ≡ None → ⊥) → (y ≡ None → ⊥) → cond t x y ≡ None → ⊥
always_choice true x y f g p = f p
always_choice false x y f g p = g p

pub is_written : (ρ : Valuation) (v : ℕ) (c : Cmd) → always c v ≡ true → written ρ v c ≡ None → ⊥
is_written ρ v idle h p = true≢false (sym h)
is_written ρ v (seq a b) h p =
    always_seq (written ρ v a) (written ρ v b)
    (⊎_elim (λ q. inl (is_written ρ v a q)) (λ q. inr (is_written ρ v b q)) (or_cases (always a v) (always b v) h)) p
is_written ρ v (choice e a b) h p =
    let q = and_parts (always a v) (always b v) h in
    always_choice (eqb (eval ρ e) 1) (written ρ v a) (written ρ v b) (is_written ρ v a q.0) (is_written ρ v b q.1) p
is_written ρ v (assign u e place) h p = none≢some (written ρ v (assign u e place)) (eval ρ e) p (ap (λ t. cond t (Some (eval ρ e)) None) h)

-- each condition of the path comes out as the path says
abbrev pub Holds : Valuation → List Way → Type 0
Holds ρ path = All (λ (k : Way). eqb (eval ρ k.0) 1 ≡ k.1) path

abbrev pub Conditions : (Expr → Type 0) → List Way → Type 0
Conditions C path = All (λ (k : Way). C k.0) path

-- the assignment that gives v the value x, where c stands behind the path
pub record Found (C : Expr → Type 0) (A : List Way → ℕ → Expr → Type 0) (ρ : Valuation) (path : List Way) (c : Cmd) (v x : ℕ) : Type 0 where
  pub way : List Way
  pub source : Expr
  pub conditions : Conditions C way
  pub rule : A way v source
  pub taken : Holds ρ way
  pub value : x ≡ eval ρ source
  pub again : (σ : Valuation) → Holds σ way → Holds σ path × (written σ v c ≡ Some (eval σ source))

module _ (C : Expr → Type 0) (A : List Way → ℕ → Expr → Type 0) (ρ : Valuation) (v x : ℕ) where
  find_assign : (path : List Way) (u : ℕ) (e : Expr) (place : ℕ) → A path u e → Conditions C path → Holds ρ path
      → (t : Bool) → eqb u v ≡ t → cond t (Some (eval ρ e)) None ≡ Some x → Found C A ρ path (assign u e place) v x
  find_assign path u e place h k q true i p = record {
    way = path;
    source = e;
    conditions = k;
    rule = subst (λ n. A path n e) (eqb-true u v i) h;
    taken = q;
    value = cc;
    again = λ σ g. (g, ap (λ t. cond t (Some (eval σ e)) None) i);
  }
  find_assign path u e place h k q false i p = absurd (none≢some None x refl p)

  -- found in a part, found in the whole
  pass : (path path' : List Way) (c c' : Cmd)
      → ((σ : Valuation) (e : Expr) → Holds σ path → written σ v c ≡ Some (eval σ e) → Holds σ path' × (written σ v c' ≡ Some (eval σ e)))
      → Found C A ρ path c v x → Found C A ρ path' c' v x
  pass path path' c c' f r = record {
    way = r.way;
    source = r.source;
    conditions = r.conditions;
    rule = r.rule;
    taken = r.taken;
    value = r.value;
    again = λ σ k. f σ r.source (r.again σ k).0 (r.again σ k).1;
  }

  find_seq : (path : List Way) (a b : Cmd) → (assigns a v ≡ true → assigns b v ≡ false)
      → (written ρ v a ≡ Some x → Found C A ρ path a v x) → (written ρ v b ≡ Some x → Found C A ρ path b v x)
      → (o : Option ℕ) → written ρ v b ≡ o → option_or o (written ρ v a) ≡ Some x → Found C A ρ path (seq a b) v x
  find_seq path a b h f g (Some y) i p = pass path path b (seq a b) (λ σ e k q. (k, ap (λ o. option_or o (written σ v a)) q)) (g (i ∙ p))
  find_seq path a b h f g None i p =
      pass path path a (seq a b) (λ σ e k q. (k, ap (λ o. option_or o (written σ v a)) (not_written σ v b (h (assigned ρ v a x p))) ∙ q)) (f p)

  find_choice : (path : List Way) (e : Expr) (a b : Cmd)
      → (eqb (eval ρ e) 1 ≡ true → written ρ v a ≡ Some x → Found C A ρ ((e, true) ∷ path) a v x)
      → (eqb (eval ρ e) 1 ≡ false → written ρ v b ≡ Some x → Found C A ρ ((e, false) ∷ path) b v x)
      → (t : Bool) → eqb (eval ρ e) 1 ≡ t → cond t (written ρ v a) (written ρ v b) ≡ Some x → Found C A ρ path (choice e a b) v x
  find_choice path e a b f g true i p =
      pass ((e, true) ∷ path) path a (choice e a b) (λ σ s k q. (k.1, ap (λ t. cond t (written σ v a) (written σ v b)) k.0 ∙ q)) (f i p)
  find_choice path e a b f g false i p =
      pass ((e, false) ∷ path) path b (choice e a b) (λ σ s k q. (k.1, ap (λ t. cond t (written σ v a) (written σ v b)) k.0 ∙ q)) (g i p)

  pub find : (path : List Way) (c : Cmd) → Apart c → Each C A path c → Conditions C path → Holds ρ path → written ρ v c ≡ Some x → Found C A ρ path c v x
  find path idle n h k q p = absurd (none≢some None x refl p)
  find path (seq a b) n h k q p =
      find_seq path a b (n.2 v) (find path a n.0 h.0 k q) (find path b n.1 h.1 k q) (written ρ v b) refl p
  find path (choice e a b) n h k q p =
      find_choice path e a b (λ i. find ((e, true) ∷ path) a n.0 h.1 (h.0, k) (i, q)) (λ i. find ((e, false) ∷ path) b n.1 h.2 (h.0, k) (i, q))
      (eqb (eval ρ e) 1) refl p
  find path (assign u e place) n h k q p = find_assign path u e place h k q (eqb u v) refl p
