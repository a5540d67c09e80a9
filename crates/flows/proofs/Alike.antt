-- The judge's marks against the path that they stand for.
use Rattle.std.proofs.Common.{◌≡◌, ℕ, ◌<◌, ◌≤◌, Bool, true, ◌||◌, List, ◌++◌, sym, ap, ◌∙◌, subst, arith}
use Rattle.std.proofs.lemmas.Bool.{ltb-true}
use Rattle.lattice.specs.Meaning.{Meaning, Below}
use Rattle.lattice.proofs.Lists.{to_images, of_images}
use Rattle.language.specs.Syntax.{Expr, Design, count, var}
use Rattle.language.specs.Machine.{level, inside}
use Rattle.language.specs.Form.{Way}
use Rattle.language.specs.Typing.{shape, allows, sources, around}
use Rattle.language.specs.Finite.{Sets, May, Possible, Place, always_at, value_of, any_of, label_place, target_place, Tries, AllUnder, mentions, among, Test13}
use Rattle.language.specs.Offences.{Shown}
use Rattle.language.proofs.Lists.{all_from, all_at}
use Rattle.language.proofs.Places.{small_value}
use Rattle.language.proofs.Mentions.{flow_mem, mem_flow}
use Rattle.records.specs.Trees.{design_of}
use Rattle.records.proofs.Designs.{count_is}
use Rattle.paths.specs.declared.path.Path.{Path}
use Rattle.variables.specs.declared.sets.VariableSet.{VariableSet}
use Rattle.variables.specs.Variables.{has}
use Rattle.paths.specs.Marks.{sets_of, Tracks}
use Rattle.flows.specs.Findings.{Exposes, ReadsInside}
use Rattle.records.specs.Layouts.{File}

-- a design of a file has at most 128 variables
pub few : (f : File) → count (design_of f) ≤ 128
few f = omega (arith, count_is f)

-- ---- sets that agree on what is ever asked

module _ (d : Design) (most : count d ≤ 128) where
  inside_small : (v : ℕ) → inside d v ≡ true → v < 128
  inside_small v h = omega (arith, ltb-true v (count d) h, most)

  module _ (s t : Sets) (agree : (v x : ℕ) → v < 128 → x < 16 → s v x ≡ t v x) where
    same_may : (v x : ℕ) → May d s v x → May d t v x
    same_may v x h = record {
      variable = h.variable;
      small = h.small;
      fits = h.fits;
      left = sym (agree v x (inside_small v h.variable) h.small) ∙ h.left;
    }

    same_tries : (p : Place) (x : ℕ) → Tries d s p x → Tries d t p x
    same_tries (always_at l) x h = h
    same_tries (value_of k r) x h = same_may r x h
    same_tries (any_of k w) x h = h

    same_possible : Possible d s → Possible d t
    same_possible h v i n = ((h v i n).0, same_may v (h v i n).0 (h v i n).1)

pub same_all_under : (m : Meaning) (d : Design) → count d ≤ 128 → (s t : Sets) → ((v x : ℕ) → v < 128 → x < 16 → s v x ≡ t v x)
    → (f g : ℕ → Bool) → ((v : ℕ) → v < 128 → f v ≡ g v) → (q : Place) → AllUnder m d s f q → AllUnder m d t g q
same_all_under m d most s t agree f g alike q h possible v i k x y a b o =
    let back : (v x : ℕ) → v < 128 → x < 16 → t v x ≡ s v x = λ v x p r. sym (agree v x p r) in
    h (same_possible d most t s back possible) v i (alike v (inside_small d most v i) ∙ k) x y
    (same_tries d most t s back (label_place (var d v).label) x a) (same_tries d most t s back q y b) o

-- ---- one assignment

module _ (m : Meaning) (d : Design) (most : count d ≤ 128) (ways : List Way) (path : Path) (flow : VariableSet) (tracks : Tracks ways path) (e : Expr)
    (flows : (v : ℕ) → v < 128 → has flow v ≡ (mentions e v || has path.variables v)) (u : ℕ) where
  alike : (v : ℕ) → v < 128 → has flow v ≡ (mentions e v || among ways v)
  alike v h = flows v h ∙ ap (λ b. mentions e v || b) (tracks.variables v h)

  pub assignment_passes : (q : Place) → q ≡ target_place d u (shape e) → AllUnder m d (sets_of path.values) (has flow) q → Test13 m d ways u e
  assignment_passes q is h =
      subst (AllUnder m d (allows ways) (λ v. mentions e v || among ways v)) is
      (same_all_under m d most (sets_of path.values) (allows ways) tracks.values (has flow) (λ v. mentions e v || among ways v) alike q h)

  pub exposed_shown : (a b : ℕ) → Exposes m d (sets_of path.values) (has flow) u (shape e) a b → ReadsInside d ways e → Shown m d a b ways u e
  exposed_shown a b x inner =
      let vs = sources e ++ around ways in
      let at = level d x.values in
      record {
        values = x.values;
        fits = x.suited.fits;
        allowed = λ v i n. sym (tracks.values v (x.values v) (inside_small d most v i) (small_value (x.values v) (var d v).width n (x.suited.fits v))) ∙ x.suited.kept v i n;
        coming = x.coming;
        comes = x.comes;
        flow_is = record {
          level = x.join.is_level;
          above = to_images (λ l. Below m l a) at vs (all_from (λ v. Below m (at v) a) vs (λ v mem.
              let i = all_at (λ v. inside d v ≡ true) vs v inner mem in
              x.join.above v (ltb-true v (count d) i) (alike v (inside_small d most v i) ∙ mem_flow e ways v mem)));
          least = λ t small all. x.join.least t small (λ v h k.
              all_at (λ v. Below m (at v) t) vs v (of_images (λ l. Below m l t) at vs all) (flow_mem e ways v (sym (alike v (omega (arith, h, most))) ∙ k)));
        };
        goal_is = x.goal_is;
        not_below = x.not_below;
      }
