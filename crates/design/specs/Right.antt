-- What it means that a design file is accepted, and that a refusal comes first, in words of the rules.
use Rattle.std.specs.Prelude.{◌≡◌, ℕ, ◌<◌, true, false, ◌⊎◌, List, Some, None, Ok, Err, Option}
use Rattle.refusal.specs.declared.Section.{Section}
use Rattle.refusal.specs.declared.Section.TheVariants.{Blocks, Commands, Expressions}
use Rattle.refusal.specs.declared.Refusal.{Refusal}
use Rattle.refusal.specs.Notice.{Notice, notice}
use Rattle.language.specs.Form.{Formed}
use Rattle.records.specs.declared.layout.Layout.{Layout}
use Rattle.records.specs.Layouts.{File, layout_of, count_in}
use Rattle.records.specs.Cells.{command_at, expression_at}
use Rattle.records.specs.Trees.{settled_at, design_of}
use Rattle.survey.specs.Uses.{command_used, expr_used}
use Rattle.rules.specs.declared.Rule.{Rule}
use Rattle.rules.specs.Ranges.{out_of_range}
use Rattle.rules.specs.Parts.{command_high, expr_high}
use Rattle.rules.specs.Rules.{offends}
use Rattle.rules.specs.First.{refusal_of}
use Rattle.design.specs.First.{under}

-- ---- accepted

-- each command and each expression is used once altogether, and its parts have lower numbers
pub record UsedOnce (f : File) : Type 0 where
  pub commands : (n : ℕ) → n < count_in f Commands → command_used f n ≡ 1
  pub parts : (n : ℕ) → n < count_in f Commands → command_high (command_at f n) n ≡ false
  pub expressions : (n : ℕ) → n < count_in f Expressions → expr_used f n ≡ 1
  pub operands : (n : ℕ) → n < count_in f Expressions → expr_high (expression_at f n) n ≡ false

-- no settled block comes after a clocked one
abbrev pub Ordered : File → Type 0
Ordered f = (b c : ℕ) → b < c → c < count_in f Blocks → settled_at f c ≡ true → settled_at f b ≡ true

-- the records are in range and used once, the blocks are in order, and the design that they describe is formed
pub record Right (f : File) : Type 0 where
  pub ranges : (s : Section) (n : ℕ) → n < count_in f s → out_of_range f s n ≡ false
  pub uses : UsedOnce f
  pub ordered : Ordered f
  pub formed : Formed (design_of f)

pub record Accepted (f : File) : Type 0 where
  pub layout : layout_of f.bytes ≡ Ok f.layout
  pub right : Right f

-- ---- refused

-- the smaller number, then the earlier section, then the earlier record
abbrev pub Before : Notice → Notice → Type 0
Before x y = (x.number < y.number) ⊎ ((x.number ≡ y.number) × ((x.section < y.section) ⊎ ((x.section ≡ y.section) × (x.«record» < y.«record»))))

-- the refusal of a record that breaks a rule, where no refusal of another comes before
pub record First (f : File) (r : Refusal) : Type 0 where
  pub rule : Rule
  pub section : Section
  pub place : ℕ
  pub inside : place < count_in f section
  pub named : r ≡ refusal_of rule section place
  pub offender : offends f rule section place ≡ true
  pub none_before : (k : Rule) (s : Section) (n : ℕ) → n < count_in f s → Before (notice (refusal_of k s n)) (notice r) → offends f k s n ≡ false

-- the layout is refused, or else a record, and then no layout has the file accepted
pub record Refused (f : List ℕ) (r : Refusal) : Type 0 where
  pub first : (layout_of f ≡ Err r) ⊎ ((l : Layout) × (layout_of f ≡ Ok l) × First (under f l) r)
  pub not_accepted : (l : Layout) → Accepted (under f l) → ⊥

-- ---- what the check of the records says

-- no record breaks a rule
abbrev pub Quiet : File → Type 0
Quiet f = (k : Rule) (s : Section) (n : ℕ) → n < count_in f s → offends f k s n ≡ false

abbrev pub Says : File → Option Refusal → Type 0
Says f None = Right f
Says f (Some r) = First f r × (Right f → ⊥)
