-- Variables and their selectors, where no record breaks a rule.
use Rattle.std.proofs.Common.{◌≡◌, ℕ, ◌^◌, ◌<◌, ◌≤◌, Bool, true, false, not, ◌&&◌, eqb, ltb, sym, refl, ap, ◌∙◌, subst, inl, inr, ⊎_elim, true≢false, pow_pos, Option, Some, None}
use Rattle.std.proofs.lemmas.Bool.{cases_lt, or_parts, and_cases, and_parts, ltb-false, lt-ltb, eq-eqb, not-false}
use Rattle.refusal.specs.declared.Section.TheVariants.{Tables, Variables}
use Rattle.language.specs.Syntax as tree
use Rattle.language.specs.Syntax.{Label, port, register, wire, fixed, looked_up, var}
use Rattle.language.specs.Machine.{is_port, is_wire_kind, held}
use Rattle.language.specs.Form.{Selects}
use Rattle.records.specs.declared.codes.Kind.{Kind}
use Rattle.records.specs.declared.codes.Kind.TheVariants as kind
use Rattle.records.specs.declared.codes.Form.{Form}
use Rattle.records.specs.declared.codes.Form.TheVariants as form
use Rattle.records.specs.Layouts.{File, count_in}
use Rattle.records.specs.Cells.{variable_at}
use Rattle.records.specs.Trees.{kind_of, label_by, design_of}
use Rattle.records.proofs.Designs.{var_at, var_past, inside_at}
use Rattle.survey.specs.Sets.{wire_kind, register_kind, is_wire, is_register}
use Rattle.rules.specs.declared.Rule.TheVariants.{Range, Selector}
use Rattle.rules.specs.Ranges.{out, bad_width, label_out, reset_out, variable_out}
use Rattle.rules.specs.Parts.{differ}
use Rattle.rules.specs.Widths.{var_wide}
use Rattle.rules.specs.Blocks.{fixed_form, wrong_by, wrong_selector, misled_by}
use Rattle.design.specs.Right.{Quiet}
use Rattle.design.proofs.Fits.{not_out, not_differ}

-- ---- kinds and labels, from records to the design

wired : (k : Option Kind) → is_wire_kind (kind_of k) ≡ wire_kind k
wired (Some kind.Port) = refl
wired (Some kind.Register) = refl
wired (Some kind.Wire) = refl
wired None = refl

pub port_kind : (k : Option Kind) → kind_of k ≡ port → k ≡ Some kind.Port
port_kind (Some kind.Port) e = refl
port_kind (Some kind.Register) e = absurd (true≢false (sym (ap is_port e)))
port_kind (Some kind.Wire) e = absurd (true≢false (sym (ap is_port e)))
port_kind None e = absurd (true≢false (sym (ap is_port e)))

abbrev register_by_kind : tree.Kind → Bool
register_by_kind port = false
register_by_kind register = true
register_by_kind wire = false

pub register_kind_is : (k : Option Kind) → kind_of k ≡ register → k ≡ Some kind.Register
register_kind_is (Some kind.Port) e = absurd (true≢false (sym (ap register_by_kind e)))
register_kind_is (Some kind.Register) e = refl
register_kind_is (Some kind.Wire) e = absurd (true≢false (sym (ap register_by_kind e)))
register_kind_is None e = absurd (true≢false (sym (ap register_by_kind e)))

registered : (k : Option Kind) → register_kind k ≡ true → k ≡ Some kind.Register
registered (Some kind.Port) e = absurd (true≢false (sym e))
registered (Some kind.Register) e = refl
registered (Some kind.Wire) e = absurd (true≢false (sym e))
registered None e = absurd (true≢false (sym e))

-- a label's selector
abbrev chooser : Label → ℕ
chooser (fixed x) = 0
chooser (looked_up t s) = s

abbrev pub is_fixed : Label → Bool
is_fixed (fixed x) = true
is_fixed (looked_up t s) = false

named : (k : Option Form) (y x t s : ℕ) → label_by k y x ≡ looked_up t s → (k ≡ Some form.LookedUp) × (x ≡ s)
named (Some form.Fixed) y x t s e = absurd (true≢false (ap is_fixed e))
named (Some form.LookedUp) y x t s e = (refl, ap chooser e)
named None y x t s e = absurd (true≢false (ap is_fixed e))

label_fixed : (k : Option Form) (y x : ℕ) → fixed_form k ≡ true → label_by k y x ≡ fixed x
label_fixed (Some form.Fixed) y x e = refl
label_fixed (Some form.LookedUp) y x e = absurd (true≢false (sym e))
label_fixed None y x e = refl

reset_low : (k : Option Kind) (r w : ℕ) → reset_out k r w ≡ false → r < 2 ^ w
reset_low (Some kind.Port) r w e = let z : r ≡ 0 = not_differ r 0 e in subst (λ n. n < 2 ^ w) (sym z) (pow_pos w)
reset_low (Some kind.Register) r w e = not_out r (2 ^ w) e
reset_low (Some kind.Wire) r w e = let z : r ≡ 0 = not_differ r 0 e in subst (λ n. n < 2 ^ w) (sym z) (pow_pos w)
reset_low None r w e = absurd (true≢false e)

module _ (f : File) where
  -- a variable of the design is a wire where its record says so
  pub wire_is : (v : ℕ) → v < count_in f Variables → is_wire_kind (var (design_of f) v).kind ≡ is_wire f v
  wire_is v h = ap (λ x. is_wire_kind x.kind) (var_at f v h) ∙ wired (variable_at f v).kind ∙ sym (ap (λ t. t && wire_kind (variable_at f v).kind) (lt-ltb v (count_in f Variables) h))

  pub held_is : (v : ℕ) → v < count_in f Variables → held (design_of f) v ≡ not (is_wire f v)
  held_is v h = ap not (wire_is v h)

  pub held_at : (v : ℕ) → v < count_in f Variables → is_wire f v ≡ false → held (design_of f) v ≡ true
  held_at v h e = held_is v h ∙ ap not e

  pub held_not : (v : ℕ) → v < count_in f Variables → is_wire f v ≡ true → held (design_of f) v ≡ false
  held_not v h e = held_is v h ∙ ap not e

  pub register_is : (v : ℕ) → is_register f v ≡ true → (variable_at f v).kind ≡ Some kind.Register
  register_is v e = registered (variable_at f v).kind (and_parts (ltb v (count_in f Variables)) _ e).1

  pub reset_fits : (v : ℕ) → variable_out (variable_at f v) (count_in f Tables) (count_in f Variables) ≡ false → (variable_at f v).reset < 2 ^ (variable_at f v).width
  reset_fits v o =
      let x = variable_at f v in
      reset_low x.kind x.reset x.width (or_parts (label_out x.form x.table x.level (count_in f Tables) (count_in f Variables)) _ (or_parts (bad_width x.width) _ o).1).1

  -- a selector is a variable
  pub selector_low : (v : ℕ) → variable_out (variable_at f v) (count_in f Tables) (count_in f Variables) ≡ false → (variable_at f v).form ≡ Some form.LookedUp → (variable_at f v).level < count_in f Variables
  selector_low v o e =
      let x = variable_at f v in
      let lab = (or_parts (label_out x.form x.table x.level (count_in f Tables) (count_in f Variables)) _ (or_parts (bad_width x.width) _ o).1).0 in
      not_out x.level (count_in f Variables) (or_parts (out x.table (count_in f Tables)) _ (subst (λ k. label_out k x.table x.level (count_in f Tables) (count_in f Variables) ≡ false) e lab)).1

module _ (f : File) (q : Quiet f) where
  pub resets_fit : (v : ℕ) → (var (design_of f) v).reset < 2 ^ (var (design_of f) v).width
  resets_fit v =
      ⊎_elim
      (λ lt. subst (λ x. x.reset < 2 ^ x.width) (sym (var_at f v lt)) (reset_fits f v (q Range Variables v lt)))
      (λ ge. subst (λ x. x.reset < 2 ^ x.width) (sym (var_past f v ge)) (pow_pos 0))
      (cases_lt v (count_in f Variables))

  -- what a looked-up label says
  pub record Chosen (v s : ℕ) : Type 0 where
    pub low : v < count_in f Variables
    pub names : s < count_in f Variables
    pub narrow : var_wide f s ≤ 4
    pub own : (differ s v && not (fixed_form (variable_at f s).form)) ≡ false
    pub by : wrong_by f (variable_at f v).kind v s ≡ false

  chosen_low : (v t s : ℕ) → v < count_in f Variables → (var (design_of f) v).label ≡ looked_up t s → Chosen v s
  chosen_low v t s h e =
      let x = variable_at f v in
      let n = named x.form x.table x.level t s (sym (ap (λ y. y.label) (var_at f v h)) ∙ e) in
      let m = subst (λ k. misled_by f k x.kind v x.level ≡ false) n.0 (q Selector Variables v h) in
      let w = subst (λ k. wrong_selector f x.kind v k ≡ false) n.1 m in
      let w1 = or_parts (ltb 4 (var_wide f s)) _ w in
      let w2 = or_parts (differ s v && not (fixed_form (variable_at f s).form)) _ w1.1 in
      record {
        low = h;
        names = subst (λ i. i < count_in f Variables) n.1 (selector_low f v (q Range Variables v h) n.0);
        narrow = ltb-false 4 (var_wide f s) w1.0;
        own = w2.0;
        by = w2.1;
      }

  pub chosen : (v t s : ℕ) → (var (design_of f) v).label ≡ looked_up t s → Chosen v s
  chosen v t s e =
      ⊎_elim
      (λ lt. chosen_low v t s lt e)
      (λ ge. absurd (true≢false (ap is_fixed (sym (ap (λ y. y.label) (var_past f v ge)) ∙ e))))
      (cases_lt v (count_in f Variables))

  pub selects : (v t s : ℕ) → (var (design_of f) v).label ≡ looked_up t s → Selects (design_of f) v s
  selects v t s e =
      let c = chosen v t s e in
      record {
        names = inside_at f s c.names;
        narrow = subst (λ x. x.width ≤ 4) (sym (var_at f s c.names)) c.narrow;
        own = ⊎_elim
            (λ same. inl (not_differ s v same))
            (λ other. inr ((variable_at f s).level, ap (λ x. x.label) (var_at f s c.names) ∙ label_fixed (variable_at f s).form (variable_at f s).table (variable_at f s).level (not-false _ other)))
            (and_cases (differ s v) (not (fixed_form (variable_at f s).form)) c.own);
        of_port = λ k.
            let p = port_kind (variable_at f v).kind (sym (ap (λ x. x.kind) (var_at f v c.low)) ∙ k) in
            let z = or_parts (eqb s v) (is_wire f s) (subst (λ i. wrong_by f i v s ≡ false) p c.by) in
            (λ same. true≢false (sym (eq-eqb s v same) ∙ z.0), held_at f s c.names z.1);
        of_register = λ k.
            let p = register_kind_is (variable_at f v).kind (sym (ap (λ x. x.kind) (var_at f v c.low)) ∙ k) in
            held_at f s c.names (subst (λ i. wrong_by f i v s ≡ false) p c.by);
      }
