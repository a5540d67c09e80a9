-- What holds of every table and every variable that is there holds of every number.
use Rattle.std.proofs.Common.{◌≡◌, ℕ, ◌<◌, [], length, get_or, sym, ap, ◌∙◌, subst, ⊎_elim, arith}
use Rattle.std.proofs.lemmas.List.{get_or_past}
use Rattle.std.proofs.lemmas.Bool.{cases_lt, ltb-true}
use Rattle.lattice.specs.Meaning.{Meaning, Laws}
use Rattle.language.specs.Syntax.{Design, Variable, fixed, count, entry}
use Rattle.language.specs.Typing.{TableLevels, LabelLevel}
use Rattle.language.specs.Finite.{Test12}
use Rattle.language.proofs.Sane.{var_none, label_inside}
use Rattle.records.specs.Layouts.{File}
use Rattle.records.specs.Trees.{design_of}
use Rattle.records.proofs.Tables.{entry_past}

fixed_same : (a b : ℕ) → fixed a ≡ fixed b → a ≡ b
fixed_same a b h = cc

-- a table of a file has sixteen entries, and past them is level 0
pub table_levels : (m : Meaning) → Laws m → (f : File) (t : ℕ) → ((i : ℕ) → i < 16 → entry (design_of f) t i < m.count) → TableLevels m (design_of f) t
table_levels m laws f t fine i =
    ⊎_elim (fine i) (λ h. subst (λ n. n < m.count) (sym (entry_past f t i h)) laws.order.some) (cases_lt i 16)

module _ (m : Meaning) (d : Design) where
  pub tables_from : Laws m → ((t : ℕ) → t < length d.tables → TableLevels m d t) → (t : ℕ) → TableLevels m d t
  tables_from laws fine t i =
      ⊎_elim (λ h. fine t h i)
      (λ h. subst (λ n. n < m.count) (sym (ap (λ xs. get_or xs i 0) (get_or_past d.tables t [] h) ∙ get_or_past [] i 0 (omega arith))) laws.order.some) (cases_lt t (length d.tables))

  pub labels_from : Laws m → ((v : ℕ) → v < count d → LabelLevel m d v) → (v : ℕ) → LabelLevel m d v
  labels_from laws fine v l e =
      ⊎_elim (λ h. fine v h l e)
      (λ h. subst (λ n. n < m.count) (fixed_same 0 l (sym (ap (λ (x : Variable). x.label) (var_none d v h)) ∙ e)) laws.order.some) (cases_lt v (count d))

  pub tests_from : ((v : ℕ) → v < count d → Test12 m d v) → (v : ℕ) → Test12 m d v
  tests_from fine v t s l e = fine v (ltb-true v (count d) (label_inside d v t s e)) t s l e
