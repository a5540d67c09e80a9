-- What a formed design says of each of its blocks.
use Rattle.std.proofs.Common.{◌≡◌, ℕ, zero, suc, ◌+◌, ◌<◌, ◌≤◌, Bool, true, false, cond, not, ◌&&◌, ◌||◌, ◌⊎◌, List, [], ◌∷◌, sym, refl, ap, ◌∙◌, subst, inl, inr, ⊎_elim, true≢false, arith}
use Rattle.std.proofs.lemmas.Bool.{cases_lt, cases_Bool, or_cases, or_left, or_right, or_from, eqb-true}
use Rattle.refusal.specs.declared.Section.TheVariants.{Blocks}
use Rattle.lattice.specs.Meaning.{All}
use Rattle.language.specs.Syntax.{Cmd, Expr, Design, register, idle, seq, choice, assign, var, together}
use Rattle.language.specs.Machine.{inside, held, is_wire_kind}
use Rattle.language.specs.Form.{Way, Each, Reads, Settles, Settling, Clocks, Formed, Apart, assigns}
use Rattle.records.specs.Layouts.{File, count_in}
use Rattle.records.specs.Trees.{body_at, settled_at, bodies, design_of}
use Rattle.records.proofs.Designs.{settled_is, clocked_is}
use Rattle.survey.specs.Walks.{twice}
use Rattle.design.proofs.Widths.{Wide}

pub each_map : {C D : Expr → Type 0} {A B : List Way → ℕ → Expr → Type 0} → ((e : Expr) → C e → D e) → ((p : List Way) (u : ℕ) (e : Expr) → A p u e → B p u e) → (path : List Way) (c : Cmd) → Each C A path c → Each D B path c
each_map g h path idle x = tt
each_map g h path (seq a b) x = (each_map g h path a x.0, each_map g h path b x.1)
each_map g h path (choice e a b) x = (g e x.0, each_map g h ((e, true) ∷ path) a x.1, each_map g h ((e, false) ∷ path) b x.2)
each_map g h path (assign u e k) x = h path u e x

module _ (C : Expr → Type 0) (A : List Way → ℕ → Expr → Type 0) (v : ℕ) where
  pub each_assigned : (path : List Way) (c : Cmd) → Each C A path c → assigns c v ≡ true → (p : List Way) × (e : Expr) × A p v e
  each_assigned path idle x s = absurd (true≢false (sym s))
  each_assigned path (seq a b) x s = ⊎_elim (λ t. each_assigned path a x.0 t) (λ t. each_assigned path b x.1 t) (or_cases (assigns a v) (assigns b v) s)
  each_assigned path (choice e a b) x s = ⊎_elim (λ t. each_assigned ((e, true) ∷ path) a x.1 t) (λ t. each_assigned ((e, false) ∷ path) b x.2 t) (or_cases (assigns a v) (assigns b v) s)
  each_assigned path (assign u e k) x s = (path, e, subst (λ n. A path n e) (eqb-true u v s) x)

pub and_none : (x y : Bool) → (x ≡ true → y ≡ false) → (x && y) ≡ false
and_none true y h = h refl
and_none false y h = refl

pub apart_twice : (c : Cmd) → Apart c → (v : ℕ) → twice c v ≡ false
apart_twice idle a v = refl
apart_twice (seq x y) a v =
    or_from (assigns x v && assigns y v) (twice x v || twice y v) (and_none (assigns x v) (assigns y v) (a.2 v)) (or_from (twice x v) (twice y v) (apart_twice x a.0 v) (apart_twice y a.1 v))
apart_twice (choice e x y) a v = or_from (twice x v) (twice y v) (apart_twice x a.0 v) (apart_twice y a.1 v)
apart_twice (assign u e k) a v = refl

module _ (f : File) where
  abbrev d : Design
  d = design_of f

  abbrev blocks : ℕ
  blocks = count_in f Blocks

  abbrev settled : ℕ → Bool
  settled b = settled_at f b

  -- what a settled block knows
  pub record Inv (b : ℕ) (known : ℕ → Bool) : Type 0 where
    pub sound : (v : ℕ) → known v ≡ true → (held d v ≡ true) ⊎ ((c : ℕ) × (c < b) × (settled c ≡ true) × (assigns (body_at f c) v ≡ true))
    pub all : (v : ℕ) → held d v ≡ true → known v ≡ true
    pub before : (c v : ℕ) → c < b → settled c ≡ true → assigns (body_at f c) v ≡ true → known v ≡ true

  inv_start : Inv 0 (held d)
  inv_start = record { sound = λ v h. inl h; all = λ v h. h; before = λ c v lt s a. absurd (omega arith) }

  inv_settled : (b : ℕ) (known : ℕ → Bool) → Inv b known → settled b ≡ true → Inv (b + 1) (λ v. known v || assigns (body_at f b) v)
  inv_settled b known i s = record {
    sound = λ v h. ⊎_elim
        (λ k. ⊎_elim (λ x. inl x) (λ x. inr (x.0, omega (arith, x.1), x.2, x.3)) (i.sound v k))
        (λ a. inr (b, omega arith, s, a))
        (or_cases (known v) (assigns (body_at f b) v) h);
    all = λ v h. or_left (known v) (assigns (body_at f b) v) (i.all v h);
    before = λ c v lt sc a. ⊎_elim
        (λ below. or_left (known v) (assigns (body_at f b) v) (i.before c v below sc a))
        (λ ge. let z : c ≡ b = omega arith in or_right (known v) (assigns (body_at f b) v) (subst (λ k. assigns (body_at f k) v ≡ true) z a))
        (cases_lt c b);
  }

  inv_clocked : (b : ℕ) (known : ℕ → Bool) → Inv b known → settled b ≡ false → Inv (b + 1) known
  inv_clocked b known i s = record {
    sound = λ v h. ⊎_elim (λ x. inl x) (λ x. inr (x.0, omega (arith, x.1), x.2, x.3)) (i.sound v h);
    all = i.all;
    before = λ c v lt sc a. ⊎_elim
        (λ below. i.before c v below sc a)
        (λ ge. let z : c ≡ b = omega arith in absurd (true≢false (sym sc ∙ ap settled z ∙ s)))
        (cases_lt c b);
  }

  pub record At (b : ℕ) : Type 0 where
    pub known : ℕ → Bool
    pub inv : Inv b known
    pub each : Each (Reads d known 1) (λ path u e. Settles d known (body_at f b) u e) [] (body_at f b)
    pub apart : Apart (body_at f b)

  pub settles_of : (b v : ℕ) (x : At b) → assigns (body_at f b) v ≡ true → (e : Expr) × Settles d x.known (body_at f b) v e
  settles_of b v x a = let r = each_assigned (Reads d x.known 1) (λ path u e. Settles d x.known (body_at f b) u e) v [] (body_at f b) x.each a in (r.1, r.2)

  pub record End : Type 0 where
    pub known : ℕ → Bool
    pub inv : Inv blocks known
    pub full : (v : ℕ) → inside d v ≡ true → known v ≡ true

  walk : (k b : ℕ) (known : ℕ → Bool) → b + k ≡ blocks → Inv b known → Settling d known (bodies f (settled_at f) b k) → ((c : ℕ) → b ≤ c → c < blocks → settled c ≡ true → At c) × End
  walk zero b known e i s =
      (λ c le lt sc. absurd (omega (arith, e)), let z : b ≡ blocks = omega (arith, e) in record { known = known; inv = subst (λ n. Inv n known) z i; full = s })
  walk (suc k) b known e i s = by (settled b) refl s (λ known' i' s'. walk k (b + 1) known' (omega (arith, e)) i' s')
    where
      by : (t : Bool) → settled b ≡ t → Settling d known (cond t (body_at f b ∷ bodies f (settled_at f) (b + 1) k) (bodies f (settled_at f) (b + 1) k))
          → ((known' : ℕ → Bool) → Inv (b + 1) known' → Settling d known' (bodies f (settled_at f) (b + 1) k) → ((c : ℕ) → b + 1 ≤ c → c < blocks → settled c ≡ true → At c) × End)
          → ((c : ℕ) → b ≤ c → c < blocks → settled c ≡ true → At c) × End
      by true is s rec =
          let r = rec (λ v. known v || assigns (body_at f b) v) (inv_settled b known i is) s.2 in (
            λ c le lt sc. ⊎_elim
                (λ (above : b < c). r.0 c (omega arith) lt sc)
                (λ here. let z : b ≡ c = omega arith in subst At z (record { known = known; inv = i; each = s.0; apart = s.1 }))
                (cases_lt b c),
            r.1,
          )
      by false is s rec =
          let r = rec known (inv_clocked b known i is) s in (
            λ c le lt sc. ⊎_elim
                (λ (above : b < c). r.0 c (omega arith) lt sc)
                (λ here. let z : c ≡ b = omega arith in absurd (true≢false (sym sc ∙ ap settled z ∙ is)))
                (cases_lt b c),
            r.1,
          )

  abbrev clocked_from : ℕ → ℕ → List Cmd
  clocked_from b k = bodies f (λ j. not (settled_at f j)) b k

  in_together : (k b c v : ℕ) → b + k ≡ blocks → b ≤ c → c < blocks → settled c ≡ false → assigns (body_at f c) v ≡ true → assigns (together (clocked_from b k)) v ≡ true
  in_together zero b c v e le lt s a = absurd (omega (arith, e))
  in_together (suc k) b c v e le lt s a = by (settled b) refl (λ above. in_together k (b + 1) c v (omega (arith, e)) above lt s a)
    where
      by : (t : Bool) → settled b ≡ t → (b + 1 ≤ c → assigns (together (clocked_from (b + 1) k)) v ≡ true) → assigns (together (cond (not t) (body_at f b ∷ clocked_from (b + 1) k) (clocked_from (b + 1) k))) v ≡ true
      by true is rest = ⊎_elim (λ (above : b < c). rest (omega arith)) (λ here. let z : c ≡ b = omega arith in absurd (true≢false (sym is ∙ ap settled (sym z) ∙ s))) (cases_lt b c)
      by false is rest =
          ⊎_elim
          (λ (above : b < c). or_right (assigns (body_at f b) v) (assigns (together (clocked_from (b + 1) k)) v) (rest (omega arith)))
          (λ here. let z : c ≡ b = omega arith in or_left (assigns (body_at f b) v) (assigns (together (clocked_from (b + 1) k)) v) (subst (λ n. assigns (body_at f n) v ≡ true) z a))
          (cases_lt b c)

  abbrev Clocking : List Cmd → Type 0
  Clocking cs = All (Each (Reads d (inside d) 1) (λ path u e. Clocks d u e) []) cs

  pub record Clocked (b : ℕ) : Type 0 where
    pub each : Each (Reads d (inside d) 1) (λ path u e. Clocks d u e) [] (body_at f b)
    pub apart : Apart (body_at f b)
    pub after : (c v : ℕ) → b < c → c < blocks → settled c ≡ false → assigns (body_at f b) v ≡ true → assigns (body_at f c) v ≡ true → ⊥

  walk_clocked : (k b : ℕ) → b + k ≡ blocks → Clocking (clocked_from b k) → Apart (together (clocked_from b k)) → (c : ℕ) → b ≤ c → c < blocks → settled c ≡ false → Clocked c
  walk_clocked zero b e x a c le lt s = absurd (omega (arith, e))
  walk_clocked (suc k) b e x a c le lt s = by (settled b) refl x a (λ x' a' above. walk_clocked k (b + 1) (omega (arith, e)) x' a' c above lt s)
    where
      by : (t : Bool) → settled b ≡ t
          → Clocking (cond (not t) (body_at f b ∷ clocked_from (b + 1) k) (clocked_from (b + 1) k))
          → Apart (together (cond (not t) (body_at f b ∷ clocked_from (b + 1) k) (clocked_from (b + 1) k)))
          → (Clocking (clocked_from (b + 1) k) → Apart (together (clocked_from (b + 1) k)) → b + 1 ≤ c → Clocked c)
          → Clocked c
      by true is x a rec = ⊎_elim (λ (above : b < c). rec x a (omega arith)) (λ here. let z : c ≡ b = omega arith in absurd (true≢false (sym is ∙ ap settled (sym z) ∙ s))) (cases_lt b c)
      by false is x a rec =
          ⊎_elim
          (λ (above : b < c). rec x.1 a.1 (omega arith))
          (λ here. let z : b ≡ c = omega arith in subst Clocked z (record {
            each = x.0;
            apart = a.0;
            after = λ j v lt' hj sj here' there. true≢false (sym (in_together k (b + 1) j v (omega (arith, e)) (omega arith) hj sj there) ∙ a.2 v here');
          }))
          (cases_lt b c)

  module _ (fm : Formed d) where
    pub settled_stands : (b : ℕ) → b < blocks → settled b ≡ true → At b
    settled_stands b lt s = (walk blocks 0 (held d) (omega arith) inv_start (subst (Settling d (held d)) (settled_is f) fm.settling)).0 b (omega arith) lt s

    pub ending : End
    ending = (walk blocks 0 (held d) (omega arith) inv_start (subst (Settling d (held d)) (settled_is f) fm.settling)).1

    pub clocked_stands : (b : ℕ) → b < blocks → settled b ≡ false → Clocked b
    clocked_stands b lt s = walk_clocked blocks 0 (omega arith) (subst Clocking (clocked_is f) fm.clocking) (subst (λ cs. Apart (together cs)) (clocked_is f) fm.apart) b (omega arith) lt s

    -- the widths of a block
    pub body_wide : (b : ℕ) → b < blocks → Wide f [] (body_at f b)
    body_wide b lt =
        ⊎_elim
        (λ s. each_map (λ e x. (x.sized, x.wide)) (λ p u e x. (x.source.sized, x.source.wide)) [] (body_at f b) (settled_stands b lt s).each)
        (λ s. each_map (λ e x. (x.sized, x.wide)) (λ p u e x. (x.source.sized, x.source.wide)) [] (body_at f b) (clocked_stands b lt s).each)
        (cases_Bool (settled b))

    register_held : (v : ℕ) → (var d v).kind ≡ register → held d v ≡ true
    register_held v e = ap (λ k. not (is_wire_kind k)) e

    pub clocked_register : (b v : ℕ) → b < blocks → settled b ≡ false → assigns (body_at f b) v ≡ true → (var d v).kind ≡ register
    clocked_register b v lt s a = (each_assigned (Reads d (inside d) 1) (λ path u e. Clocks d u e) v [] (body_at f b) (clocked_stands b lt s).each a).2.target

    -- no variable is assigned in two blocks
    pub clash : (c b v : ℕ) → c < b → b < blocks → assigns (body_at f c) v ≡ true → assigns (body_at f b) v ≡ true → ⊥
    clash c b v lt h ac ab = ⊎_elim in_settled in_clocked (cases_Bool (settled b))
      where
        hc : c < blocks
        hc = omega arith

        in_settled : settled b ≡ true → ⊥
        in_settled s =
            let x = settled_stands b h s in
            let fresh = (settles_of b v x ab).1.first in
            ⊎_elim
            (λ sc. true≢false (sym (x.inv.before c v lt sc ac) ∙ fresh))
            (λ sc. true≢false (sym (x.inv.all v (register_held v (clocked_register c v hc sc ac))) ∙ fresh))
            (cases_Bool (settled c))

        in_clocked : settled b ≡ false → ⊥
        in_clocked s =
            ⊎_elim
            (λ sc.
            let x = settled_stands c hc sc in
            true≢false (sym (x.inv.all v (register_held v (clocked_register b v h s ab))) ∙ (settles_of c v x ac).1.first))
            (λ sc. (clocked_stands c hc sc).after b v lt h s ac ab)
            (cases_Bool (settled c))
