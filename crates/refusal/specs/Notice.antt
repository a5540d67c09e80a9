-- What a refusal tells its caller: its number, and the section and the record that it is about.
use Rattle.std.specs.Prelude.{◌≡◌, ℕ, Option, None, Some, List, ◌++◌, codes, decimal}
use Rattle.refusal.specs.declared.Place.{Place}
use Rattle.refusal.specs.declared.Section.{Section}
use Rattle.refusal.specs.declared.Section.TheVariants.{Tables, Variables, Blocks, Commands, Expressions}
use Rattle.refusal.specs.declared.Refusal.{Refusal}
use Rattle.refusal.specs.declared.Refusal.TheVariants.{TooShort, UnknownEdition, BrokenLayout, OverLimit, OutOfRange, Misused, WidthMismatch, BadAssignment, EarlyRead, BadSelector, NoLevel, SelectorTooHigh, FlowTooHigh, ConditionTooHigh, NotAPort, ValueTooWide, NotAVariable, NotAWatcher, NoValue, Hidden, OutsideLimits, NotALattice}

pub record Notice : Type 0 where
  pub number : ℕ
  pub section : ℕ
  pub «record» : ℕ

abbrev pub at : ℕ → ℕ → ℕ → Notice
at n s r = record { number = n; section = s; «record» = r }

-- the place of a section in a design file
abbrev pub section_number : Section → ℕ
section_number Tables = 0
section_number Variables = 1
section_number Blocks = 2
section_number Commands = 3
section_number Expressions = 4

abbrev pub notice : Refusal → Notice
notice TooShort = at 1 0 0
notice UnknownEdition = at 2 0 0
notice (BrokenLayout s) = at 3 (section_number s) 0
notice (OverLimit s) = at 4 (section_number s) 0
notice (OutOfRange p) = at 5 (section_number p.section) p.«record»
notice (Misused p) = at 6 (section_number p.section) p.«record»
notice (WidthMismatch p) = at 7 (section_number p.section) p.«record»
notice (BadAssignment p) = at 8 (section_number p.section) p.«record»
notice (EarlyRead e) = at 9 4 e
notice (BadSelector v) = at 10 1 v
notice (NoLevel p) = at 11 (section_number p.section) p.«record»
notice (SelectorTooHigh v) = at 12 1 v
notice (FlowTooHigh c flow target) = at 13 3 c
notice (ConditionTooHigh c) = at 14 3 c
notice (NotAPort v) = at 15 1 v
notice (ValueTooWide v) = at 16 1 v
notice (NotAVariable v) = at 17 1 v
notice (NotAWatcher v) = at 18 1 v
notice (NoValue v) = at 19 1 v
notice (Hidden v) = at 20 1 v
notice OutsideLimits = at 21 0 0
notice NotALattice = at 22 0 0

-- whether a refusal is about a record or a section of a design file
abbrev pub IsAboutPlace : Refusal → Type 0
IsAboutPlace TooShort = ⊥
IsAboutPlace UnknownEdition = ⊥
IsAboutPlace OutsideLimits = ⊥
IsAboutPlace NotALattice = ⊥
IsAboutPlace _ = Unit {0}

-- a notice tells of this place, and of none by 0 and 0
abbrev pub Tells : Notice → Option Place → Type 0
Tells n None = (n.section ≡ 0) × (n.«record» ≡ 0)
Tells n (Some p) = (n.section ≡ section_number p.section) × (n.«record» ≡ p.«record»)

-- a notice as it is printed
abbrev pub line : Notice → List ℕ
line n = codes "refused " ++ (decimal n.number ++ (codes " " ++ (decimal n.section ++ (codes " " ++ decimal n.«record»))))
