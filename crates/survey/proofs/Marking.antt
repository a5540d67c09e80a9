-- Laws of sets of variables and of marks.
use Rattle.std.proofs.Common.{◌≡◌, ℕ, zero, suc, ◌+◌, ◌<◌, ◌≤◌, Bool, true, false, not, ◌&&◌, ◌||◌, List, length, take, set, Decides, replicate, sym, refl, ap, ◌∙◌, subst, ⊎_elim, add-one, arith}
use Rattle.std.proofs.lemmas.List.{get_or-set_same, get_or-set_other, get_or-take, length-take-le}
use Rattle.std.proofs.lemmas.Bool.{cases_lt, cases_eq, le-ltb}
use Rattle.language.specs.Syntax.{idle, seq}
use Rattle.variables.specs.declared.sets.VariableSet.{VariableSet}
use Rattle.variables.specs.Variables.{has}
use Rattle.records.specs.Trees.{body_at}
use Rattle.survey.specs.Sums.{any}
use Rattle.survey.specs.Walks.{blocks_to}
use Rattle.survey.specs.Sets.{is_wire, wire_kind, unready, Lists, Reaches, block_in, after_in, follows_in, InBlock, Marked, Marks}
use Rattle.survey.specs.declared.reach.Reach.{Reach}
use Rattle.survey.specs.declared.reach.BlockSets.{BlockSets}
use Rattle.survey.proofs.Counting.{any_none, any_more, any_decided}
use Rattle.refusal.specs.declared.Section.TheVariants.{Variables}
use Rattle.records.specs.Layouts.{File, count_in}
use Rattle.records.specs.Cells.{variable_at}

pub or_assoc : (x y z : Bool) → (x || y || z) ≡ (x || (y || z))
or_assoc true y z = refl
or_assoc false y z = refl

-- ---- marks

pub marks_two : (xs ys zs : List Bool) (p q : ℕ → Bool) → Marks xs ys p → Marks ys zs q → Marks xs zs (λ k. p k || q k)
marks_two xs ys zs p q x y t m k lt = y (λ j. t j || p j) (x t m) k lt ∙ or_assoc (t k) (p k) (q k)

pub marked_same : (xs : List Bool) (s t : ℕ → Bool) → ((k : ℕ) → s k ≡ t k) → Marked xs s → Marked xs t
marked_same xs s t e m k lt = m k lt ∙ e k

pub marked_none : (n : ℕ) (p : ℕ → ℕ → Bool) → Marked (replicate n false) (λ k. any (p k) 0)
marked_none zero p k lt = absurd (omega arith)
marked_none (suc n) p zero lt = sym (any_none (p 0))
marked_none (suc n) p (suc k) lt = marked_none n (λ j. p (suc j)) k (omega arith)

pub marked_more : (xs ys : List Bool) (p : ℕ → ℕ → Bool) (i : ℕ) → Marked xs (λ k. any (p k) i) → Marks xs ys (λ k. p k i) → Marked ys (λ k. any (p k) (i + 1))
marked_more xs ys p i m x = marked_same ys _ _ (λ k. sym (any_more (p k) i)) (x (λ k. any (p k) i) m)

-- ---- blocks

-- a set lists the known variables: then the same wires are unready
pub same_unready : (f : File) (s : VariableSet) (p : ℕ → Bool) → Lists s p → unready f (has s) ≡ unready f p
same_unready f s p known i v = at v i
  where
    no_wire : (v : ℕ) → 128 ≤ v → is_wire f v ≡ false
    no_wire v ge = ap (λ t. t && wire_kind (variable_at f v).kind) (le-ltb v (count_in f Variables) (omega (arith, ge)))

    at : (v : ℕ) → unready f (has s) v ≡ unready f p v
    at v =
        ⊎_elim
        (λ lt. ap (λ k. is_wire f v && not k) (known v lt))
        (λ ge. ap (λ w. w && not (has s v)) (no_wire v ge) ∙ sym (ap (λ w. w && not (p v)) (no_wire v ge)))
        (cases_lt v 128)

pub reaches_none : (f : File) (r : Reach) → Reaches idle r → Reaches (blocks_to f 0) r
unfolding blocks_to
reaches_none f r x = x

pub reaches_more : (f : File) (b : ℕ) (r : Reach) → Reaches (seq (blocks_to f b) (body_at f b)) r → Reaches (blocks_to f (b + 1)) r
unfolding blocks_to
reaches_more f b r x = rw add-one x

-- one more block's sets, at their place
pub apart_more : (f : File) (b : ℕ) (each : List BlockSets) (x : BlockSets) → b < length each → InBlock f b x
    → ((c : ℕ) → c < b → InBlock f c (block_in each c))
    → (c : ℕ) → c < b + 1 → InBlock f c (block_in (set each b x) c)
apart_more f b each x room here h c lt =
    ⊎_elim
    (λ (e : c ≡ b). subst (λ d. InBlock f d (block_in (set each b x) d)) (sym e) (subst (InBlock f b) (sym (get_or-set_same each b x _ room)) here))
    (λ n. subst (InBlock f c) (sym (get_or-set_other each b c x _ n)) (h c (omega (arith, lt, n))))
    (cases_eq c b)

-- a search of the blocks decides whether v is assigned after s
pub follows_decided : (f : File) (n : ℕ) (each : List BlockSets) (v s : ℕ) (r : Bool) → v < 128 → s < 128 → n ≤ length each
    → ((b : ℕ) → b < n → InBlock f b (block_in each b))
    → Decides r ((b : ℕ) × (b < length (take n each)) × (after_in (take n each) v s b ≡ true))
    → r ≡ any (follows_in f v s) n
follows_decided f n each v s r lv ls most apart d =
    any_decided (follows_in f v s) n r (
      λ e. let x = d.0 e in (x.0, low x.1, sym (same x.0 (low x.1)) ∙ x.2),
      λ x. d.1 (x.0, omega (arith, x.1, length-take-le n each most), same x.0 x.1 ∙ x.2),
    )
  where
    low : {b : ℕ} → b < length (take n each) → b < n
    low lt = omega (arith, lt, length-take-le n each most)

    same : (b : ℕ) → b < n → after_in (take n each) v s b ≡ follows_in f v s b
    same b lt =
        let x = apart b lt in
        ap (λ y. has y.own v && has y.before s) (get_or-take n each b _ lt) ∙ (λ i. x.own v lv i && x.before s ls i)
