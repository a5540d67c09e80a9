-- The tables of the design that a file describes.
use Rattle.std.proofs.Common.{◌≡◌, ℕ, ◌*◌, ◌<◌, ◌≤◌, [], length, get_or, ap, ◌∙◌, ⊎_elim, zero-add, arith}
use Rattle.std.proofs.lemmas.List.{get_or_past}
use Rattle.std.proofs.lemmas.List.FromFn.{length-map-range_with_len, get_or-map-range_with_len}
use Rattle.std.proofs.lemmas.Bool.{cases_lt}
use Rattle.refusal.specs.declared.Section.TheVariants.{Tables}
use Rattle.language.specs.Syntax.{entry}
use Rattle.records.specs.Bytes.{field_of}
use Rattle.records.specs.Layouts.{File, record_of, count_in}
use Rattle.records.specs.Trees.{table_at, design_of}

module _ (f : File) where
  pub tables_is : length (design_of f).tables ≡ count_in f Tables
  unfolding design_of
  tables_is = length-map-range_with_len (table_at f) 0 (count_in f Tables)

  table_is : (t : ℕ) → t < count_in f Tables → get_or (design_of f).tables t [] ≡ table_at f t
  unfolding design_of
  table_is t h = get_or-map-range_with_len (table_at f) 0 (count_in f Tables) t t [] h (zero-add t)

  pub entry_at : (t i : ℕ) → t < count_in f Tables → i < 16 → entry (design_of f) t i ≡ field_of (record_of f Tables t) (4 * i)
  entry_at t i h k =
      ap (λ xs. get_or xs i 0) (table_is t h) ∙ get_or-map-range_with_len (λ j. field_of (record_of f Tables t) (4 * j)) 0 16 i i 0 k (zero-add i)

  pub entry_no_table : (t i : ℕ) → count_in f Tables ≤ t → entry (design_of f) t i ≡ 0
  entry_no_table t i h = ap (λ xs. get_or xs i 0) (get_or_past (design_of f).tables t [] (omega (arith, tables_is, h))) ∙ get_or_past [] i 0 (omega arith)

  pub entry_past : (t i : ℕ) → 16 ≤ i → entry (design_of f) t i ≡ 0
  entry_past t i k =
      ⊎_elim (λ h. ap (λ xs. get_or xs i 0) (table_is t h)
      ∙ get_or_past (table_at f t) i 0 (omega (arith, k, length-map-range_with_len (λ j. field_of (record_of f Tables t) (4 * j)) 0 16)))
      (λ h. entry_no_table t i h) (cases_lt t (count_in f Tables))
