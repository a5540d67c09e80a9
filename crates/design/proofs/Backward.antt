-- A formed design whose records are in range, used once and in order has no record that breaks a rule.
use Rattle.std.proofs.Common.{◌≡◌, ℕ, zero, suc, ◌<◌, ◌≤◌, Bool, true, false, not, ◌&&◌, ◌||◌, eqb, ltb, List, [], ◌∷◌, sym, refl, ap, ◌∙◌, subst, ⊎_elim, true≢false, arith, Option, Some, None}
use Rattle.std.proofs.lemmas.Bool.{cases_lt, cases_Bool, and_from, or_from, ne_eqb, le-ltb, lt-ltb, not_from_true}
use Rattle.refusal.specs.declared.Section.{Section}
use Rattle.refusal.specs.declared.Section.TheVariants.{Tables, Variables, Blocks, Commands, Expressions}
use Rattle.lattice.specs.Meaning.{All}
use Rattle.lattice.proofs.Lists.{all_left, all_right, all_weaker}
use Rattle.language.specs.Syntax.{Expr, Cmd, Design, constant, variable, complement, binary, shift_left, shift_right, part, above, choose, idle, seq, choice, assign, register, looked_up, var, vars}
use Rattle.language.specs.Machine.{inside, held, is_wire_kind}
use Rattle.language.specs.Form.{Way, Each, Reads, Settles, Formed, assigns, always}
use Rattle.records.specs.declared.codes.Kind.{Kind}
use Rattle.records.specs.declared.codes.Kind.TheVariants as kind
use Rattle.records.specs.declared.codes.Form.{Form}
use Rattle.records.specs.declared.codes.Form.TheVariants as form
use Rattle.records.specs.Layouts.{File, count_in}
use Rattle.records.specs.Cells.{variable_at, command_at, expression_at}
use Rattle.records.specs.Trees.{body_at, kind_of, label_by, settled_at, design_of}
use Rattle.records.proofs.Designs.{var_at, var_past, inside_at, inside_from}
use Rattle.survey.specs.Walks.{reads, reads_in, writes, twice, blocks_to}
use Rattle.survey.specs.Uses.{command_used, expr_used}
use Rattle.survey.specs.Sets.{register_kind, is_wire, is_register, unready, wrong_target, reads_early, writes_wrong, follows_in}
use Rattle.survey.proofs.Counting.{any_some, any_all_false}
use Rattle.rules.specs.declared.Rule.TheVariants.{Range, Use, Width, Assignment, Reading, Selector}
use Rattle.rules.specs.Parts.{differ, command_high, expr_high, misused}
use Rattle.rules.specs.Widths.{var_wide, misfits}
use Rattle.rules.specs.Blocks.{unsettled, clocked_at, late, misassigns, hasty, fixed_form, comes_after, wrong_by, wrong_selector, misled_by, misled, misguided}
use Rattle.design.specs.Right.{Right, Quiet}
use Rattle.design.proofs.Sequence.{before_assigns, always_before, blocks_some}
use Rattle.design.proofs.Selecting.{wire_is, register_kind_is, is_fixed}
use Rattle.design.proofs.Widths.{same}
use Rattle.design.proofs.Reached.{command_fits, expr_fits}
use Rattle.design.proofs.Bodies.{each_map, and_none, apart_twice, settles_of, settled_stands, ending, clocked_stands, body_wide, clash}

no_if : (x : Bool) → (x ≡ true → ⊥) → x ≡ false
no_if true h = absurd (h refl)
no_if false h = refl

-- ---- trees that read and write no variable of which p holds

module _ (p : ℕ → Bool) (k : ℕ) where
  abbrev NoneOf : Expr → Type 0
  NoneOf e = All (λ v. p v ≡ false) (vars e)

  none_reads : (e : Expr) → NoneOf e → reads p e k ≡ false
  none_reads (constant w n) h = refl
  none_reads (variable w v m) h = and_none (eqb m k) (p v) (λ t. h.0)
  none_reads (complement w a) h = none_reads a h
  none_reads (binary w o a b) h = or_from (reads p a k) (reads p b k) (none_reads a (all_left _ (vars a) (vars b) h)) (none_reads b (all_right _ (vars a) (vars b) h))
  none_reads (shift_left w a n) h = none_reads a h
  none_reads (shift_right w a n) h = none_reads a h
  none_reads (part w n a) h = none_reads a h
  none_reads (above w a b) h = or_from (reads p a k) (reads p b k) (none_reads a (all_left _ (vars a) (vars b) h)) (none_reads b (all_right _ (vars a) (vars b) h))
  none_reads (choose w c a b) h =
      let rest = all_right _ (vars c) _ h in
      or_from (reads p c k) (reads p a k || reads p b k) (none_reads c (all_left _ (vars c) _ h))
      (or_from (reads p a k) (reads p b k) (none_reads a (all_left _ (vars a) (vars b) rest)) (none_reads b (all_right _ (vars a) (vars b) rest)))

  none_reads_in : (path : List Way) (c : Cmd) → Each NoneOf (λ q u e. NoneOf e) path c → reads_in p c k ≡ false
  none_reads_in path idle h = refl
  none_reads_in path (seq a b) h = or_from (reads_in p a k) (reads_in p b k) (none_reads_in path a h.0) (none_reads_in path b h.1)
  none_reads_in path (choice e a b) h =
      or_from (reads p e k) (reads_in p a k || reads_in p b k) (none_reads e h.0)
      (or_from (reads_in p a k) (reads_in p b k) (none_reads_in ((e, true) ∷ path) a h.1) (none_reads_in ((e, false) ∷ path) b h.2))
  none_reads_in path (assign u e m) h = none_reads e h

  none_writes : (C : Expr → Type 0) (path : List Way) (c : Cmd) → Each C (λ q u e. p u ≡ false) path c → writes p c k ≡ false
  none_writes C path idle h = refl
  none_writes C path (seq a b) h = or_from (writes p a k) (writes p b k) (none_writes C path a h.0) (none_writes C path b h.1)
  none_writes C path (choice e a b) h = or_from (writes p a k) (writes p b k) (none_writes C ((e, true) ∷ path) a h.1) (none_writes C ((e, false) ∷ path) b h.2)
  none_writes C path (assign u e m) h = and_none (eqb m k) (p u) (λ t. h)

module _ (f : File) (r : Right f) where
  abbrev d : Design
  d = design_of f

  abbrev fm : Formed d
  fm = r.formed

  abbrev blocks : ℕ
  blocks = count_in f Blocks

  -- ---- kinds

  held_no : (v : ℕ) → is_wire f v ≡ true → held d v ≡ false
  held_no v w =
      ⊎_elim
      (λ lt. ap not (wire_is f v lt ∙ w))
      (λ ge. ap (λ x. not (is_wire_kind x.kind)) (var_past f v ge))
      (cases_lt v (count_in f Variables))

  no_wire : (v : ℕ) → held d v ≡ true → is_wire f v ≡ false
  no_wire v e = no_if (is_wire f v) (λ w. true≢false (sym e ∙ held_no v w))

  is_wire_at : (v : ℕ) → v < count_in f Variables → held d v ≡ false → is_wire f v ≡ true
  is_wire_at v h e = ⊎_elim (λ t. t) (λ z. absurd (true≢false (sym (ap not (wire_is f v h ∙ z)) ∙ e))) (cases_Bool (is_wire f v))

  register_at : (v : ℕ) → (var d v).kind ≡ register → is_register f v ≡ true
  register_at v e =
      ⊎_elim
      (λ lt. and_from (ltb v (count_in f Variables)) (register_kind (variable_at f v).kind) (lt-ltb v (count_in f Variables) lt) (ap register_kind (register_kind_is (variable_at f v).kind (sym (ap (λ x. x.kind) (var_at f v lt)) ∙ e))))
      (λ ge. absurd (true≢false (ap is_wire_kind (sym (ap (λ x. x.kind) (var_past f v ge)) ∙ e))))
      (cases_lt v (count_in f Variables))

  -- the settled block that assigns a wire
  wire_home : (v : ℕ) → inside d v ≡ true → is_wire f v ≡ true → (c : ℕ) × (c < blocks) × (settled_at f c ≡ true) × (assigns (body_at f c) v ≡ true)
  wire_home v i w =
      ⊎_elim
      (λ h. absurd (true≢false (sym h ∙ held_no v w)))
      (λ x. x)
      ((ending f fm).inv.sound v ((ending f fm).full v i))

  -- ---- assignments

  twice_none : (n v : ℕ) → n ≤ blocks → twice (blocks_to f n) v ≡ false
  unfolding blocks_to
  twice_none zero v h = refl
  twice_none (suc n) v h =
      or_from (assigns (blocks_to f n) v && assigns (body_at f n) v) (twice (blocks_to f n) v || twice (body_at f n) v)
      (and_none (assigns (blocks_to f n) v) (assigns (body_at f n) v) (λ t. no_if (assigns (body_at f n) v) (λ here. let x = blocks_some f n v t in clash f fm x.0 n v x.1 h x.2 here)))
      (or_from (twice (blocks_to f n) v) (twice (body_at f n) v) (twice_none n v (omega arith))
      (⊎_elim
      (λ s. apart_twice (body_at f n) (settled_stands f fm n h s).apart v)
      (λ s. apart_twice (body_at f n) (clocked_stands f fm n h s).apart v)
      (cases_Bool (settled_at f n))))

  settled_right : (v : ℕ) → v < count_in f Variables → unsettled f v ≡ false
  settled_right v h =
      or_from (twice (blocks_to f blocks) v) (is_wire f v && not (always (blocks_to f blocks) v)) (twice_none blocks v (omega arith))
      (and_none (is_wire f v) (not (always (blocks_to f blocks) v)) (λ w.
      let c = wire_home v (inside_at f v h) w in
      not_from_true (always (blocks_to f blocks) v) (always_before f blocks c.0 v c.1 (settles_of f c.0 v (settled_stands f fm c.0 c.1 c.2) c.3).1.all)))

  none_late : (b : ℕ) → b < blocks → late f b ≡ false
  none_late b h = and_none (settled_at f b) _ (λ s. any_all_false (clocked_at f) b (λ k lt. not_from_true (settled_at f k) (r.ordered k b lt h s)))

  none_wrong : (n : ℕ) → misassigns f Commands n ≡ false
  none_wrong n = any_all_false (writes_wrong f n) blocks (λ b hb. ⊎_elim (in_settled b hb) (in_clocked b hb) (cases_Bool (settled_at f b)))
    where
      in_settled : (b : ℕ) → b < blocks → settled_at f b ≡ true → writes_wrong f n b ≡ false
      in_settled b hb s =
          let x = settled_stands f fm b hb s in
          let wire_here : (u : ℕ) (e : Expr) → Settles d x.known (body_at f b) u e → wrong_target f true u ≡ false = λ u e z.
          not_from_true (is_wire f u) (is_wire_at u (inside_from f u z.target) (no_if (held d u) (λ y. true≢false (sym (x.inv.all u y) ∙ z.first)))) in
          subst (λ t. writes (wrong_target f t) (body_at f b) n ≡ false) (sym s)
          (none_writes (wrong_target f true) n (Reads d x.known 1) [] (body_at f b) (each_map (λ e y. y) (λ q u e z. wire_here u e z) [] (body_at f b) x.each))

      in_clocked : (b : ℕ) → b < blocks → settled_at f b ≡ false → writes_wrong f n b ≡ false
      in_clocked b hb s =
          let x = clocked_stands f fm b hb s in
          subst (λ t. writes (wrong_target f t) (body_at f b) n ≡ false) (sym s)
          (none_writes (wrong_target f false) n (Reads d (inside d) 1) [] (body_at f b) (each_map (λ e y. y) (λ q u e z. not_from_true (is_register f u) (register_at u z.target)) [] (body_at f b) x.each))

  -- ---- readings

  -- what is known before block b is no wire, or assigned before
  in_time : (b v : ℕ) → (is_wire f v ≡ true → assigns (blocks_to f b) v ≡ true) → unready f (assigns (blocks_to f b)) v ≡ false
  in_time b v h = and_none (is_wire f v) _ (λ w. not_from_true (assigns (blocks_to f b) v) (h w))

  none_early : (e : ℕ) → hasty f Expressions e ≡ false
  none_early e = any_all_false (reads_early f e) blocks (λ b hb. ⊎_elim (in_settled b hb) (in_clocked b hb) (cases_Bool (settled_at f b)))
    where
      in_settled : (b : ℕ) → b < blocks → settled_at f b ≡ true → reads_early f e b ≡ false
      in_settled b hb s =
          let x = settled_stands f fm b hb s in
          let ready : (v : ℕ) → x.known v ≡ true → unready f (assigns (blocks_to f b)) v ≡ false = λ v k. in_time b v (λ w.
          ⊎_elim (λ h. absurd (true≢false (sym h ∙ held_no v w))) (λ c. before_assigns f b c.0 v c.1 c.3) (x.inv.sound v k)) in
          none_reads_in (unready f (assigns (blocks_to f b))) e [] (body_at f b)
          (each_map (λ y z. all_weaker _ _ ready (vars y) z.reads) (λ q u y z. all_weaker _ _ ready (vars y) z.source.reads) [] (body_at f b) x.each)

      in_clocked : (b : ℕ) → b < blocks → settled_at f b ≡ false → reads_early f e b ≡ false
      in_clocked b hb s =
          let x = clocked_stands f fm b hb s in
          let ready : (v : ℕ) → inside d v ≡ true → unready f (assigns (blocks_to f b)) v ≡ false = λ v k. in_time b v (λ w.
          let c = wire_home v k w in
          ⊎_elim
          (λ lt. before_assigns f b c.0 v lt c.3)
          (λ ge. ⊎_elim
          (λ lt. absurd (true≢false (sym (r.ordered b c.0 lt c.1 c.2) ∙ s)))
          (λ le. let z : c.0 ≡ b = omega (arith, ge, le) in absurd (true≢false (sym c.2 ∙ ap (settled_at f) z ∙ s)))
          (cases_lt b c.0))
          (cases_lt c.0 b)) in
          none_reads_in (unready f (assigns (blocks_to f b))) e [] (body_at f b)
          (each_map (λ y z. all_weaker _ _ ready (vars y) z.reads) (λ q u y z. all_weaker _ _ ready (vars y) z.source.reads) [] (body_at f b) x.each)

  -- ---- selectors

  -- a wire's selector that is another wire is assigned before
  after : (v t s : ℕ) → v < count_in f Variables → is_wire f v ≡ true → (var d v).label ≡ looked_up t s → differ s v ≡ true → is_wire f s ≡ true → comes_after f v s ≡ true
  after v t s h wv lab other ws =
      let c = wire_home v (inside_at f v h) wv in
      let y = settled_stands f fm c.0 c.1 c.2 in
      let z = (settles_of f c.0 v y c.3).1.selector t s lab in
      any_some (follows_in f v s) blocks c.0 c.1
      (and_from (assigns (body_at f c.0) v) (assigns (blocks_to f c.0) s) c.3
      (⊎_elim
      (λ eq. absurd (true≢false (sym other ∙ same s v eq)))
      (λ k. ⊎_elim
      (λ hd. absurd (true≢false (sym hd ∙ held_no s ws)))
      (λ j. before_assigns f c.0 j.0 s j.1 j.3)
      (y.inv.sound s k))
      z))

  by_kind : (v t s : ℕ) → v < count_in f Variables → (var d v).label ≡ looked_up t s → (k : Option Kind) → (variable_at f v).kind ≡ k → wrong_by f k v s ≡ false
  by_kind v t s h lab (Some kind.Port) e =
      let p = (fm.selectors v t s lab).of_port (ap (λ y. y.kind) (var_at f v h) ∙ ap kind_of e) in
      or_from (eqb s v) (is_wire f s) (ne_eqb s v p.0) (no_wire s p.1)
  by_kind v t s h lab (Some kind.Register) e = no_wire s ((fm.selectors v t s lab).of_register (ap (λ y. y.kind) (var_at f v h) ∙ ap kind_of e))
  by_kind v t s h lab (Some kind.Wire) e =
      let wv = sym (wire_is f v h) ∙ ap (λ y. is_wire_kind y.kind) (var_at f v h) ∙ ap (λ k. is_wire_kind (kind_of k)) e in
      and_none (differ s v) _ (λ o. and_none (is_wire f s) _ (λ w. not_from_true (comes_after f v s) (after v t s h wv lab o w)))
  by_kind v t s h lab None e =
      let wv = sym (wire_is f v h) ∙ ap (λ y. is_wire_kind y.kind) (var_at f v h) ∙ ap (λ k. is_wire_kind (kind_of k)) e in
      and_none (differ s v) _ (λ o. and_none (is_wire f s) _ (λ w. not_from_true (comes_after f v s) (after v t s h wv lab o w)))

  -- a label that is fixed is looked up by no table
  fixed_form_is : (k : Option Form) (t x : ℕ) → is_fixed (label_by k t x) ≡ fixed_form k
  fixed_form_is (Some form.Fixed) t x = refl
  fixed_form_is (Some form.LookedUp) t x = refl
  fixed_form_is None t x = refl

  led_by : (v s : ℕ) → v < count_in f Variables → (var d v).label ≡ looked_up (variable_at f v).table s → wrong_selector f (variable_at f v).kind v s ≡ false
  led_by v s h lab =
      let x = fm.selectors v (variable_at f v).table s lab in
      let hs = inside_from f s x.names in
      or_from (ltb 4 (var_wide f s)) _ (le-ltb 4 (var_wide f s) (subst (λ y. y.width ≤ 4) (var_at f s hs) x.narrow))
      (or_from (differ s v && not (fixed_form (variable_at f s).form)) _
      (and_none (differ s v) _ (λ t. ⊎_elim
      (λ eq. absurd (true≢false (sym t ∙ same s v eq)))
      (λ fx. not_from_true _ (sym (fixed_form_is (variable_at f s).form (variable_at f s).table (variable_at f s).level) ∙ ap is_fixed (sym (ap (λ y. y.label) (var_at f s hs)) ∙ fx.1)))
      x.own))
      (by_kind v (variable_at f v).table s h lab (variable_at f v).kind refl))

  led : (v : ℕ) → v < count_in f Variables → misled f (variable_at f v) v ≡ false
  led v h = by (variable_at f v).form refl
    where
      by : (k : Option Form) → (variable_at f v).form ≡ k → misled_by f k (variable_at f v).kind v (variable_at f v).level ≡ false
      by (Some form.Fixed) e = refl
      by (Some form.LookedUp) e = led_by v (variable_at f v).level h (ap (λ y. y.label) (var_at f v h) ∙ ap (λ k. label_by k (variable_at f v).table (variable_at f v).level) e)
      by None e = refl

  -- ---- all of them

  none_misused : (s : Section) (n : ℕ) → n < count_in f s → misused f s n ≡ false
  none_misused Tables n h = refl
  none_misused Variables n h = refl
  none_misused Blocks n h = refl
  none_misused Commands n h = or_from (differ (command_used f n) 1) (command_high (command_at f n) n) (same (command_used f n) 1 (r.uses.commands n h)) (r.uses.parts n h)
  none_misused Expressions n h = or_from (differ (expr_used f n) 1) (expr_high (expression_at f n) n) (same (expr_used f n) 1 (r.uses.expressions n h)) (r.uses.operands n h)

  none_misfit : (s : Section) (n : ℕ) → n < count_in f s → misfits f s n ≡ false
  none_misfit Tables n h = refl
  none_misfit Variables n h = refl
  none_misfit Blocks n h = refl
  none_misfit Commands n h = command_fits f r.ranges r.uses (body_wide f fm) n h
  none_misfit Expressions n h = expr_fits f r.ranges r.uses (body_wide f fm) n h

  none_misassigned : (s : Section) (n : ℕ) → n < count_in f s → misassigns f s n ≡ false
  none_misassigned Tables n h = refl
  none_misassigned Variables n h = settled_right n h
  none_misassigned Blocks n h = none_late n h
  none_misassigned Commands n h = none_wrong n
  none_misassigned Expressions n h = refl

  none_hasty : (s : Section) (n : ℕ) → hasty f s n ≡ false
  none_hasty Tables n = refl
  none_hasty Variables n = refl
  none_hasty Blocks n = refl
  none_hasty Commands n = refl
  none_hasty Expressions n = none_early n

  none_misguided : (s : Section) (n : ℕ) → n < count_in f s → misguided f s n ≡ false
  none_misguided Tables n h = refl
  none_misguided Variables n h = led n h
  none_misguided Blocks n h = refl
  none_misguided Commands n h = refl
  none_misguided Expressions n h = refl

  pub quiet_back : Quiet f
  quiet_back Range s n h = r.ranges s n h
  quiet_back Use s n h = none_misused s n h
  quiet_back Width s n h = none_misfit s n h
  quiet_back Assignment s n h = none_misassigned s n h
  quiet_back Reading s n h = none_hasty s n
  quiet_back Selector s n h = none_misguided s n h
