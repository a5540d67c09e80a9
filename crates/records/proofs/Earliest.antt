-- The first section that a test finds, by its place.
use Rattle.std.proofs.Common.{◌≡◌, ℕ, Bool, true, false, cond, Option, Some, None, Ok, Err, Result, refl, sym, ap, ◌∙◌}
use Rattle.std.specs.List.{find}
use Rattle.std.specs.Option.{option_map}
use Rattle.refusal.specs.declared.Section.{Section}
use Rattle.refusal.specs.declared.Section.TheVariants.{Tables, Variables, Blocks, Commands, Expressions}
use Rattle.refusal.specs.declared.Refusal.{Refusal}
use Rattle.refusal.specs.declared.Refusal.TheVariants.{BrokenLayout, OverLimit}
use Rattle.refusal.specs.Notice.{section_number}
use Rattle.records.specs.Layouts.{all_sections, section_at, earliest, or_else, broken, exceeded}

abbrev found : (ℕ → Bool) → Option Section
found p = find (λ s. p (section_number s)) all_sections

abbrev told : (Section → Refusal) → Option Section → Result (Unit {0}) Refusal
told r None = Ok tt
told r (Some s) = Err (r s)

found_is : (p : ℕ → Bool) → option_map section_at (earliest p 5) ≡ found p
unfolding earliest
found_is p = five (p 0) (p 1) (p 2) (p 3) (p 4)
  where
    five : (a b c d e : Bool) → option_map section_at (or_else (or_else (or_else (or_else (or_else None (cond a (Some 0) None)) (cond b (Some 1) None)) (cond c (Some 2) None)) (cond d (Some 3) None)) (cond e (Some 4) None)) ≡ cond a (Some Tables) (cond b (Some Variables) (cond c (Some Blocks) (cond d (Some Commands) (cond e (Some Expressions) None))))
    five true b c d e = refl
    five false true c d e = refl
    five false false true d e = refl
    five false false false true e = refl
    five false false false false true = refl
    five false false false false false = refl

broken_told : (o : Option ℕ) → broken o ≡ told BrokenLayout (option_map section_at o)
broken_told None = refl
broken_told (Some i) = refl

exceeded_told : (o : Option ℕ) → exceeded o ≡ told OverLimit (option_map section_at o)
exceeded_told None = refl
exceeded_told (Some i) = refl

pub broken_at : (p : ℕ → Bool) (r : Option Section) → r ≡ found p → broken (earliest p 5) ≡ told BrokenLayout r
broken_at p r e = broken_told (earliest p 5) ∙ ap (told BrokenLayout) (found_is p ∙ sym e)

pub exceeded_at : (p : ℕ → Bool) (r : Option Section) → r ≡ found p → exceeded (earliest p 5) ≡ told OverLimit r
exceeded_at p r e = exceeded_told (earliest p 5) ∙ ap (told OverLimit) (found_is p ∙ sym e)
