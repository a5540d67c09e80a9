-- Which refusal the records of a section, and of a file, get for breaking a rule, and for breaking any: that of the first record that breaks it.
use Rattle.std.specs.Prelude.{ℕ, zero, suc, cond, Some, None, Ok, Err, Option, Result, ◌==◌}
use Rattle.refusal.specs.declared.Section.{Section}
use Rattle.refusal.specs.declared.Refusal.{Refusal}
use Rattle.refusal.specs.declared.Refusal.TheVariants.{OutOfRange, Misused, WidthMismatch, BadAssignment, EarlyRead, BadSelector}
use Rattle.records.specs.Layouts.{File, section_count, section_at, or_else, count_in}
use Rattle.rules.specs.declared.Rule.{Rule}
use Rattle.rules.specs.declared.Rule.TheVariants.{Range, Use, Width, Assignment, Reading, Selector}
use Rattle.rules.specs.Rules.{offends}

-- the refusal of record n of a section that breaks a rule
abbrev pub refusal_of : Rule → Section → ℕ → Refusal
refusal_of Range s n = OutOfRange (record { section = s; «record» = n })
refusal_of Use s n = Misused (record { section = s; «record» = n })
refusal_of Width s n = WidthMismatch (record { section = s; «record» = n })
refusal_of Assignment s n = BadAssignment (record { section = s; «record» = n })
refusal_of Reading s n = EarlyRead n
refusal_of Selector s n = BadSelector n

-- the first that the numbers below n give
unfoldable pub first : {A : Type 0} → (ℕ → Option A) → ℕ → Option A
first g zero = None
first g (suc n) = or_else (first g n) (g n)

abbrev pub refused_at : File → Rule → Section → ℕ → Option Refusal
refused_at f r s n = cond (offends f r s n) (Some (refusal_of r s n)) None

abbrev pub refused_in : File → Rule → Section → Option Refusal
refused_in f r s = first (refused_at f r s) (count_in f s)

abbrev pub refused_by : File → Rule → Option Refusal
refused_by f r = first (λ i. refused_in f r (section_at i)) section_count

-- ---- all rules

abbrev pub rule_count : ℕ
rule_count = 6

-- the rules by the numbers of their refusals
abbrev pub rule_at : ℕ → Rule
rule_at k = cond (k == 0) Range (cond (k == 1) Use (cond (k == 2) Width (cond (k == 3) Assignment (cond (k == 4) Reading Selector))))

abbrev pub form_refusal : File → Option Refusal
form_refusal f = first (λ k. refused_by f (rule_at k)) rule_count

-- what a check answers that found this
abbrev pub checked : Option Refusal → Result (Unit {0}) Refusal
checked None = Ok tt
checked (Some r) = Err r
