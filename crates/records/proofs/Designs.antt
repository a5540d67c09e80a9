-- The variables, tables and blocks of the design that a file describes.
use Rattle.std.proofs.Common.{◌≡◌, ℕ, ◌<◌, ◌≤◌, true, false, not, ltb, sym, refl, ap, ◌∙◌, subst, zero-add}
use Rattle.std.proofs.lemmas.List.{get_or_past}
use Rattle.std.proofs.lemmas.Bool.{ltb-true, lt-ltb, le-ltb}
use Rattle.std.proofs.lemmas.List.FromFn.{length-map-range_with_len, get_or-map-range_with_len}
use Rattle.refusal.specs.declared.Section.TheVariants.{Variables, Blocks}
use Rattle.language.specs.Syntax.{nothing, count, var}
use Rattle.language.specs.Machine.{inside}
use Rattle.records.specs.Layouts.{File, count_in}
use Rattle.records.specs.Cells.{variable_at}
use Rattle.records.specs.Trees.{settled_at, bodies, variable_of, design_of}

module _ (f : File) where
  pub count_is : count (design_of f) ≡ count_in f Variables
  unfolding design_of
  count_is = length-map-range_with_len (λ v. variable_of (variable_at f v)) 0 (count_in f Variables)

  pub var_at : (v : ℕ) → v < count_in f Variables → var (design_of f) v ≡ variable_of (variable_at f v)
  unfolding design_of
  var_at v h = get_or-map-range_with_len (λ k. variable_of (variable_at f k)) 0 (count_in f Variables) v v nothing h (zero-add v)

  pub var_past : (v : ℕ) → count_in f Variables ≤ v → var (design_of f) v ≡ nothing
  var_past v h = get_or_past (design_of f).variables v nothing (subst (λ n. n ≤ v) (sym count_is) h)

  pub inside_at : (v : ℕ) → v < count_in f Variables → inside (design_of f) v ≡ true
  inside_at v h = ap (ltb v) count_is ∙ lt-ltb v (count_in f Variables) h

  pub inside_past : (v : ℕ) → count_in f Variables ≤ v → inside (design_of f) v ≡ false
  inside_past v h = ap (ltb v) count_is ∙ le-ltb v (count_in f Variables) h

  pub inside_from : (v : ℕ) → inside (design_of f) v ≡ true → v < count_in f Variables
  inside_from v e = ltb-true v (count_in f Variables) (sym (ap (ltb v) count_is) ∙ e)

  pub settled_is : (design_of f).settled ≡ bodies f (settled_at f) 0 (count_in f Blocks)
  unfolding design_of
  settled_is = refl

  pub clocked_is : (design_of f).clocked ≡ bodies f (λ b. not (settled_at f b)) 0 (count_in f Blocks)
  unfolding design_of
  clocked_is = refl
