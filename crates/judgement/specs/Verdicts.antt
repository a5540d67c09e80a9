-- What the judge's answer tells.
use Rattle.std.specs.Prelude.{ℕ, ◌⊎◌, List}
use Rattle.refusal.specs.declared.Section.{Section}
use Rattle.refusal.specs.declared.Section.TheVariants.{Tables, Variables, Blocks, Commands, Expressions}
use Rattle.refusal.specs.declared.Refusal.{Refusal}
use Rattle.refusal.specs.declared.Refusal.TheVariants.{TooShort, UnknownEdition, BrokenLayout, OverLimit, OutOfRange, Misused, WidthMismatch, BadAssignment, EarlyRead, BadSelector, NoLevel, SelectorTooHigh, FlowTooHigh, ConditionTooHigh, NotAPort, ValueTooWide, NotAVariable, NotAWatcher, NoValue, Hidden, OutsideLimits, NotALattice}
use Rattle.lattice.specs.Meaning.{Meaning}
use Rattle.language.specs.Syntax.{Design}
use Rattle.language.specs.Form.{Every}
use Rattle.language.specs.Typing.{TableLevels, LabelLevel, Levelled, Reaches, Flows, Anything, Typed}
use Rattle.language.specs.Offences.{First, Breaks13, Breaks14}
use Rattle.language.specs.Guarantee.{Secure}
use Rattle.records.specs.declared.layout.Layout.{Layout}
use Rattle.records.specs.Trees.{design_of}
use Rattle.design.specs.First.{under}
use Rattle.design.specs.Right.{Accepted, Refused}
use Rattle.records.specs.Layouts.{File}

-- ---- of a formed design

-- the rules hold, and so no watcher learns more than its level allows
pub record Accepts (m : Meaning) (d : Design) : Type 0 where
  pub typed : Typed m d
  pub secure : Secure m d

-- 11 names the first table with an entry that is no level; where there is none, the first fixed label that is no level
abbrev pub NoLevelOf : Meaning → Design → Section → ℕ → Type 0
NoLevelOf m d Tables t = First (TableLevels m d) t
NoLevelOf m d Variables v = ((t : ℕ) → TableLevels m d t) × First (LabelLevel m d) v
NoLevelOf m d Blocks n = ⊥
NoLevelOf m d Commands n = ⊥
NoLevelOf m d Expressions n = ⊥

-- What a refusal of the judge tells. Each rule is asked where those with a lower number hold.
-- 12 names the first variable that breaks it, and 14 the first assignment;
-- 13 an assignment that breaks it, with the levels of its flow and of its target at some allowed values.
abbrev pub Tells : Meaning → Design → Refusal → Type 0
Tells m d (NoLevel p) = NoLevelOf m d p.section p.«record»
Tells m d (SelectorTooHigh v) = Levelled m d × First (Reaches m d) v
Tells m d (FlowTooHigh n flow goal) = Levelled m d × ((v : ℕ) → Reaches m d v) × Breaks13 m d n flow goal
Tells m d (ConditionTooHigh n) =
    Levelled m d × ((v : ℕ) → Reaches m d v) × Every Anything (Flows m d) d.settled × Every Anything (Flows m d) d.clocked × Breaks14 m d n
Tells m d TooShort = ⊥
Tells m d UnknownEdition = ⊥
Tells m d (BrokenLayout s) = ⊥
Tells m d (OverLimit s) = ⊥
Tells m d (OutOfRange p) = ⊥
Tells m d (Misused p) = ⊥
Tells m d (WidthMismatch p) = ⊥
Tells m d (BadAssignment p) = ⊥
Tells m d (EarlyRead e) = ⊥
Tells m d (BadSelector v) = ⊥
Tells m d (NotAPort v) = ⊥
Tells m d (ValueTooWide v) = ⊥
Tells m d (NotAVariable v) = ⊥
Tells m d (NotAWatcher v) = ⊥
Tells m d (NoValue v) = ⊥
Tells m d (Hidden v) = ⊥
Tells m d OutsideLimits = ⊥
Tells m d NotALattice = ⊥

-- a rule is broken, as the refusal tells
pub record Rejects (m : Meaning) (d : Design) (f : Refusal) : Type 0 where
  pub untyped : Typed m d → ⊥
  pub tells : Tells m d f

-- ---- of a file

-- the form is right, and the design keeps the rules
pub record Approved (m : Meaning) (f : File) : Type 0 where
  pub form : Accepted f
  pub verdict : Accepts m (design_of f)

-- the form is refused, or else a rule is broken; and so the form is not right, or the design does not keep the rules
pub record Declined (m : Meaning) (f : List ℕ) (r : Refusal) : Type 0 where
  pub reason : Refused f r ⊎ ((l : Layout) × Accepted (under f l) × Rejects m (design_of (under f l)) r)
  pub never : (l : Layout) → Accepted (under f l) → Typed m (design_of (under f l)) → ⊥
