-- A design whose records break no rule is formed.
use Rattle.std.proofs.Common.{◌≡◌, ℕ, zero, suc, ◌+◌, ◌<◌, ◌≤◌, Bool, true, false, not, ◌&&◌, ◌||◌, ◌⊎◌, List, [], sym, refl, ap, ◌∙◌, subst, inl, inr, ⊎_elim, true≢false, add-one, arith, Option, Some, None}
use Rattle.std.proofs.lemmas.Bool.{cases_Bool, or_parts, or_cases, or_left, or_right, or_from, and_cases, and_parts, cond_both, not-false, not-true}
use Rattle.refusal.specs.declared.Section.TheVariants.{Variables, Blocks, Commands, Expressions}
use Rattle.lattice.specs.Meaning.{All}
use Rattle.language.specs.Syntax.{Cmd, Design, var, together}
use Rattle.language.specs.Machine.{is_wire_kind, inside, held}
use Rattle.language.specs.Form.{Each, Reads, Settles, Settling, Clocks, Formed, Apart, assigns, always}
use Rattle.records.specs.declared.codes.Kind.{Kind}
use Rattle.records.specs.declared.codes.Kind.TheVariants as kind
use Rattle.records.specs.Layouts.{File, count_in}
use Rattle.records.specs.Cells.{variable_at, block_at}
use Rattle.records.specs.Trees.{expr_at, body_at, kind_of, settled_at, bodies, design_of}
use Rattle.records.proofs.Designs.{var_at, inside_at, inside_from, settled_is, clocked_is}
use Rattle.survey.specs.Walks.{reads_in, writes, twice, blocks_to}
use Rattle.survey.specs.Sets.{wire_kind, is_wire, unready, wrong_target, reads_early, writes_wrong, follows_in}
use Rattle.survey.proofs.Counting.{any_found, any_false_at}
use Rattle.survey.proofs.Marking.{or_assoc}
use Rattle.rules.specs.declared.Rule.TheVariants.{Range, Assignment, Reading}
use Rattle.rules.specs.Ranges.{block_kind_out}
use Rattle.rules.specs.Parts.{differ}
use Rattle.rules.specs.Blocks.{comes_after, wrong_by}
use Rattle.design.specs.Right.{Quiet}
use Rattle.design.proofs.Fits.{not_out, not_differ, second}
use Rattle.design.proofs.Sized.{whole_at, fine_at}
use Rattle.design.proofs.Sequence.{always_assigns, twice_assigns, apart_from, assigns_more, assigns_none, once, only, always_in, fresh}
use Rattle.design.proofs.Selecting.{held_at, held_not, register_is, resets_fit, Chosen, chosen, selects}

or_drop : (x y z : Bool) → (z ≡ true → x ≡ true) → (x || y) ≡ (x || (y || z))
or_drop true y z h = refl
or_drop false true z h = refl
or_drop false false true h = h refl
or_drop false false false h = refl

or_none : (x : Bool) → (x || false) ≡ x
or_none true = refl
or_none false = refl

-- the selector of a wire, by what is said of its kind
wire_by : (f : File) (k : Option Kind) (v s : ℕ) → wire_kind k ≡ true → wrong_by f k v s ≡ false → (differ s v && (is_wire f s && not (comes_after f v s))) ≡ false
wire_by f (Some kind.Port) v s w e = absurd (true≢false (sym w))
wire_by f (Some kind.Register) v s w e = absurd (true≢false (sym w))
wire_by f (Some kind.Wire) v s w e = e
wire_by f None v s w e = e

module _ (f : File) (q : Quiet f) where
  abbrev d : Design
  d = design_of f

  abbrev blocks : ℕ
  blocks = count_in f Blocks

  top_low : (b : ℕ) → b < blocks → (block_at f b).top < count_in f Commands
  top_low b h = not_out _ _ (or_parts (block_kind_out (block_at f b).kind) _ (q Range Blocks b h)).1

  -- no record of a block assigns what the block may not
  writes_right : (b k : ℕ) → b < blocks → k < count_in f Commands → writes (wrong_target f (settled_at f b)) (body_at f b) k ≡ false
  writes_right b k hb hk = any_false_at (writes_wrong f k) blocks b (q Assignment Commands k hk) hb

  -- nor reads a wire too early
  reads_right : (b k : ℕ) → b < blocks → k < count_in f Expressions → reads_in (unready f (assigns (blocks_to f b))) (body_at f b) k ≡ false
  reads_right b k hb hk = any_false_at (reads_early f k) blocks b (q Reading Expressions k hk) hb

  found_in : (b v : ℕ) → b < blocks → assigns (body_at f b) v ≡ true → (v < count_in f Variables) × (wrong_target f (settled_at f b) v ≡ false)
  found_in b v h e = fine_at f q (wrong_target f (settled_at f b)) v (block_at f b).top (top_low b h) e (λ k lt. writes_right b k h lt)

  -- two assignments of v stand in opposite branches
  single : (v : ℕ) → v < count_in f Variables → twice (blocks_to f blocks) v ≡ false
  single v h = (or_parts (twice (blocks_to f blocks) v) _ (q Assignment Variables v h)).0

  apart_body : (b : ℕ) → b < blocks → Apart (body_at f b)
  apart_body b h = apart_from (body_at f b) at
    where
      at : (v : ℕ) → twice (body_at f b) v ≡ false
      at v =
          ⊎_elim
          (λ t. absurd (true≢false (sym t ∙ (once f blocks b v h (single v (found_in b v h (twice_assigns (body_at f b) v t)).0)).1)))
          (λ z. z)
          (cases_Bool (twice (body_at f b) v))

  -- a wire is assigned on every path of the blocks together
  wire_always : (v : ℕ) → v < count_in f Variables → is_wire f v ≡ true → always (blocks_to f blocks) v ≡ true
  wire_always v h w = not-false _ (second (is_wire f v) _ (or_parts (twice (blocks_to f blocks) v) _ (q Assignment Variables v h)).1 w)

  -- what a settled block may read
  abbrev knows : ℕ → ℕ → Bool
  knows b v = held d v || assigns (blocks_to f b) v

  module _ (b : ℕ) (h : b < blocks) (settled : settled_at f b ≡ true) (known : ℕ → Bool) (is : (v : ℕ) → known v ≡ knows b v) where
    ready : (v : ℕ) → v < count_in f Variables → unready f (assigns (blocks_to f b)) v ≡ false → known v ≡ true
    ready v hv r =
        is v ∙
        ⊎_elim
        (λ w. or_right (held d v) (assigns (blocks_to f b) v) (not-false _ (second (is_wire f v) _ r w)))
        (λ w. or_left (held d v) (assigns (blocks_to f b) v) (held_at f v hv w))
        (cases_Bool (is_wire f v))

    chosen_one : (s u : ℕ) → is_wire f u ≡ true → twice (blocks_to f blocks) u ≡ false → assigns (body_at f b) u ≡ true → Chosen f q u s → (s ≡ u) ⊎ (known s ≡ true)
    chosen_one s u w one some c =
        ⊎_elim
        (λ same. inl (not_differ s u same))
        (λ rest. inr (is s ∙ ⊎_elim
        (λ held_here. or_left (held d s) (assigns (blocks_to f b) s) (held_at f s c.names held_here))
        (λ after.
        let r = any_found (follows_in f u s) blocks (not-false _ after) in
        let both = and_parts (assigns (body_at f r.0) u) (assigns (blocks_to f r.0) s) r.2 in
        let same : r.0 ≡ b = only f blocks r.0 b u one r.1 h both.0 some in
        or_right (held d s) (assigns (blocks_to f b) s) (subst (λ k. assigns (blocks_to f k) s ≡ true) same both.1))
        (and_cases (is_wire f s) _ rest)))
        (and_cases (differ s u) _ (wire_by f (variable_at f u).kind u s (and_parts _ (wire_kind (variable_at f u).kind) w).1 c.by))

    settles : (u e : ℕ) → u < count_in f Variables → Reads d known (var d u).width (expr_at f e) → wrong_target f (settled_at f b) u ≡ false → assigns (body_at f b) u ≡ true → Settles d known (body_at f b) u (expr_at f e)
    settles u e hu src right some =
        let w : is_wire f u ≡ true = not-false _ (subst (λ t. wrong_target f t u ≡ false) settled right) in
        let one = single u hu in
        record {
          source = src;
          target = inside_at f u hu;
          first = is u ∙ or_from (held d u) (assigns (blocks_to f b) u) (held_not f u hu w) (fresh f blocks b u h one some);
          all =
              (let r = always_in f blocks u (wire_always u hu w) in
              let same : r.0 ≡ b = only f blocks r.0 b u one r.1 h (always_assigns (body_at f r.0) u r.2) some in
              subst (λ k. always (body_at f k) u ≡ true) same r.2);
          selector = λ t s lab. chosen_one s u w one some (chosen f q u t s lab);
        }

    settled_body : Each (Reads d known 1) (λ path u e. Settles d known (body_at f b) u e) [] (body_at f b)
    settled_body =
        whole_at f q known (unready f (assigns (blocks_to f b))) ready
        (wrong_target f (settled_at f b)) (λ v. assigns (body_at f b) v ≡ true) (Settles d known (body_at f b)) settles
        (block_at f b).top (top_low b h) (record { reading = λ k lt. reads_right b k h lt; writing = λ k lt. writes_right b k h lt; assigning = λ v r. r }) []

  -- a clocked block assigns what is held
  clocked_kind : (b v : ℕ) → settled_at f b ≡ false → wrong_target f (settled_at f b) v ≡ false → (variable_at f v).kind ≡ Some kind.Register
  clocked_kind b v c right = register_is f v (not-false _ (subst (λ t. wrong_target f t v ≡ false) c right))

  clocked_held : (b v : ℕ) → b < blocks → settled_at f b ≡ false → assigns (body_at f b) v ≡ true → held d v ≡ true
  clocked_held b v h c e =
      let x = found_in b v h e in
      ap (λ y. not (is_wire_kind y.kind)) (var_at f v x.0) ∙ ap (λ k. not (is_wire_kind (kind_of k))) (clocked_kind b v c x.1)

  settling_from : (k b : ℕ) → b + k ≡ blocks → (known : ℕ → Bool) → ((v : ℕ) → known v ≡ knows b v) → Settling d known (bodies f (settled_at f) b k)
  settling_from zero b e known is = λ v ins.
      let hv = inside_from f v ins in
      is v ∙
      ⊎_elim
      (λ w. or_right (held d v) (assigns (blocks_to f b) v) (let z : blocks ≡ b = omega (arith, e) in subst (λ n. assigns (blocks_to f n) v ≡ true) z (always_assigns (blocks_to f blocks) v (wire_always v hv w))))
      (λ w. or_left (held d v) (assigns (blocks_to f b) v) (held_at f v hv w))
      (cases_Bool (is_wire f v))
  settling_from (suc k) b e known is =
      let h : b < blocks = omega (arith, e) in
      let on : (b + 1) + k ≡ blocks = omega (arith, e) in
      cond_both (settled_at f b) _ _ (Settling d known)
      (λ s. (
        settled_body b h s known is,
        apart_body b h,
        settling_from k (b + 1) on (λ v. known v || assigns (body_at f b) v)
            (λ v. ap (λ t. t || assigns (body_at f b) v) (is v) ∙ or_assoc (held d v) (assigns (blocks_to f b) v) (assigns (body_at f b) v) ∙ ap (λ t. held d v || t) (sym (assigns_more f b v) ∙ ap (λ n. assigns (blocks_to f n) v) (sym (add-one b)))),
      ))
      (λ c. settling_from k (b + 1) on known
      (λ v. is v ∙ or_drop (held d v) (assigns (blocks_to f b) v) (assigns (body_at f b) v) (clocked_held b v h c) ∙ ap (λ t. held d v || t) (sym (assigns_more f b v) ∙ ap (λ n. assigns (blocks_to f n) v) (sym (add-one b)))))

  -- ---- clocked blocks

  clocks : (b : ℕ) → settled_at f b ≡ false → (u e : ℕ) → u < count_in f Variables → Reads d (inside d) (var d u).width (expr_at f e) → wrong_target f (settled_at f b) u ≡ false → Unit {0} → Clocks d u (expr_at f e)
  clocks b c u e hu src right any_u = record { source = src; target = ap (λ x. x.kind) (var_at f u hu) ∙ ap kind_of (clocked_kind b u c right) }

  clocked_body : (b : ℕ) → b < blocks → settled_at f b ≡ false → Each (Reads d (inside d) 1) (λ path u e. Clocks d u e) [] (body_at f b)
  clocked_body b h c =
      whole_at f q (inside d) (unready f (assigns (blocks_to f b))) (λ v hv r. inside_at f v hv)
      (wrong_target f (settled_at f b)) (λ v. Unit {0}) (Clocks d) (clocks b c)
      (block_at f b).top (top_low b h) (record { reading = λ k lt. reads_right b k h lt; writing = λ k lt. writes_right b k h lt; assigning = λ v r. tt }) []

  abbrev clocked_from : ℕ → ℕ → List Cmd
  clocked_from b k = bodies f (λ j. not (settled_at f j)) b k

  clocking_from : (k b : ℕ) → b + k ≡ blocks → All (Each (Reads d (inside d) 1) (λ path u e. Clocks d u e) []) (clocked_from b k)
  clocking_from zero b e = tt
  clocking_from (suc k) b e =
      let h : b < blocks = omega (arith, e) in
      let on : (b + 1) + k ≡ blocks = omega (arith, e) in
      cond_both (not (settled_at f b)) _ _ (All (Each (Reads d (inside d) 1) (λ path u e. Clocks d u e) []))
      (λ c. (clocked_body b h (not-true _ c), clocking_from k (b + 1) on))
      (λ s. clocking_from k (b + 1) on)

  -- a later clocked block that assigns v
  later_from : (k b v : ℕ) → b + k ≡ blocks → assigns (together (clocked_from b k)) v ≡ true → (c : ℕ) × (b ≤ c) × (c < blocks) × (assigns (body_at f c) v ≡ true)
  later_from zero b v e = λ a. absurd (true≢false (sym a))
  later_from (suc k) b v e =
      let h : b < blocks = omega (arith, e) in
      let on : (b + 1) + k ≡ blocks = omega (arith, e) in
      let rest : assigns (together (clocked_from (b + 1) k)) v ≡ true → (c : ℕ) × (b ≤ c) × (c < blocks) × (assigns (body_at f c) v ≡ true) = λ a. (let r = later_from k (b + 1) v on a in (r.0, omega (arith, r.1), r.2, r.3)) in
      cond_both (not (settled_at f b)) _ _ (λ cs. assigns (together cs) v ≡ true → (c : ℕ) × (b ≤ c) × (c < blocks) × (assigns (body_at f c) v ≡ true))
      (λ c a. ⊎_elim (λ x. (b, omega arith, h, x)) rest (or_cases (assigns (body_at f b) v) _ a))
      (λ s a. rest a)

  apart_rest : (k b v : ℕ) → b + 1 + k ≡ blocks → assigns (body_at f b) v ≡ true → assigns (together (clocked_from (b + 1) k)) v ≡ false
  apart_rest k b v e a =
      ⊎_elim
      (λ t.
      let h : b < blocks = omega (arith, e) in
      let r = later_from k (b + 1) v e t in
      let same : b ≡ r.0 = only f blocks b r.0 v (single v (found_in b v h a).0) h r.2 a r.3 in
      absurd (omega (arith, same, r.1)))
      (λ z. z)
      (cases_Bool (assigns (together (clocked_from (b + 1) k)) v))

  apart_all : (k b : ℕ) → b + k ≡ blocks → Apart (together (clocked_from b k))
  apart_all zero b e = tt
  apart_all (suc k) b e =
      let h : b < blocks = omega (arith, e) in
      let on : (b + 1) + k ≡ blocks = omega (arith, e) in
      cond_both (not (settled_at f b)) _ _ (λ cs. Apart (together cs))
      (λ c. (apart_body b h, apart_all k (b + 1) on, λ v a. apart_rest k b v on a))
      (λ s. apart_all k (b + 1) on)

  none_yet : (v : ℕ) → held d v ≡ knows 0 v
  none_yet v = sym (ap (λ t. held d v || t) (assigns_none f v) ∙ or_none (held d v))

  pub formed : Formed d
  formed = record {
    resets = resets_fit f q;
    settling = subst (Settling d (held d)) (sym (settled_is f)) (settling_from blocks 0 (omega arith) (held d) none_yet);
    clocking = subst (All (Each (Reads d (inside d) 1) (λ path u e. Clocks d u e) [])) (sym (clocked_is f)) (clocking_from blocks 0 (omega arith));
    apart = subst (λ cs. Apart (together cs)) (sym (clocked_is f)) (apart_all blocks 0 (omega arith));
    selectors = selects f q;
  }
