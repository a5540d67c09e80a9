-- The rules that a design file's records keep, in the order in which they are asked.
use Rattle.std.specs.Prelude.{ℕ, Bool}
use Rattle.refusal.specs.declared.Section.{Section}
use Rattle.rules.specs.declared.Rule.{Rule}
use Rattle.rules.specs.declared.Rule.TheVariants.{Range, Use, Width, Assignment, Reading, Selector}
use Rattle.rules.specs.Ranges.{out_of_range}
use Rattle.rules.specs.Parts.{misused}
use Rattle.rules.specs.Widths.{misfits}
use Rattle.rules.specs.Blocks.{misassigns, hasty, misguided}
use Rattle.records.specs.Layouts.{File}

-- a record breaks a rule
abbrev pub offends : File → Rule → Section → ℕ → Bool
offends f Range s n = out_of_range f s n
offends f Use s n = misused f s n
offends f Width s n = misfits f s n
offends f Assignment s n = misassigns f s n
offends f Reading s n = hasty f s n
offends f Selector s n = misguided f s n
