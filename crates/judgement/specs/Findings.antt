-- What each check of the judge finds, by the tests.
use Rattle.std.specs.Prelude.{◌≡◌, ℕ, ◌<◌, min, false, List, [], Some, None, Option, MatchOption}
use Rattle.refusal.specs.declared.Section.TheVariants.{Tables, Variables, Blocks}
use Rattle.refusal.specs.declared.Refusal.{Refusal}
use Rattle.refusal.specs.declared.Refusal.TheVariants.{NoLevel, SelectorTooHigh, FlowTooHigh, ConditionTooHigh}
use Rattle.lattice.specs.Meaning.{Meaning}
use Rattle.language.specs.Syntax.{Expr, Cmd, Design}
use Rattle.language.specs.Form.{Way, Each, Every}
use Rattle.language.specs.Typing.{TableLevels, LabelLevel, Anything}
use Rattle.language.specs.Finite.{Test12, Test13, Test14}
use Rattle.language.specs.Offences.{SomeAt, EachAt, SomeIn, EachIn}
use Rattle.records.specs.Layouts.{File, count_in}
use Rattle.records.specs.Trees.{body_at, settled_at, design_of}
use Rattle.flows.specs.declared.leaks.Leak.{Leak}
use Rattle.flows.specs.Findings.{Breach}

-- ---- 11 and 12

abbrev pub TablesFine : Meaning → Design → Type 0
TablesFine m d = (t : ℕ) → TableLevels m d t

abbrev pub LabelsFine : Meaning → Design → Type 0
LabelsFine m d = (v : ℕ) → LabelLevel m d v

abbrev pub Tests12 : Meaning → Design → Type 0
Tests12 m d = (v : ℕ) → Test12 m d v

-- the refusals of a table, a variable and an assignment
abbrev pub no_table : ℕ → Refusal
no_table t = NoLevel (record { section = Tables; «record» = t })

abbrev pub no_label : ℕ → Refusal
no_label v = NoLevel (record { section = Variables; «record» = v })

abbrev pub too_high : ℕ → Refusal
too_high v = SelectorTooHigh v

abbrev pub condition_high : ℕ → Refusal
condition_high n = ConditionTooHigh n

-- f is the refusal of a record of which P holds
pub record Finds (refusal : ℕ → Refusal) (P : ℕ → Type 0) (f : Refusal) : Type 0 where
  pub at : ℕ
  pub is : f ≡ refusal at
  pub found : P at

-- ---- 13

-- of every block of the file
abbrev pub BlocksPass : Meaning → File → Type 0
BlocksPass m f = (b : ℕ) → b < count_in f Blocks → Each Anything (Test13 m (design_of f)) [] (body_at f b)

-- f shows a leak in a block of the file
pub record Leaks (m : Meaning) (file : File) (f : Refusal) : Type 0 where
  pub leak : Leak
  pub is : f ≡ FlowTooHigh leak.command leak.flow leak.target
  pub block : ℕ
  pub inside : block < count_in file Blocks
  pub found : SomeAt (Breach m (design_of file) leak) [] (body_at file block)

-- ---- 14

-- the lower of two records
abbrev pub lower_of : Option ℕ → Option ℕ → Option ℕ
lower_of None b = b
lower_of (Some x) None = Some x
lower_of (Some x) (Some y) = Some (min x y)

pub record Least (Here Lower : ℕ → Type 0) (k : ℕ) : Type 0 where
  pub here : Here k
  pub lower : Lower k

-- the lowest record that offends, if any
abbrev pub LowestOf : Type 0 → (ℕ → Type 0) → (ℕ → Type 0) → Option ℕ → Type 0
LowestOf Fine Here Lower r = MatchOption r Fine (Least Here Lower)

-- the assignment in record n breaks 14; it keeps to 14 where n is lower
abbrev pub Off14 : Meaning → Design → ℕ → List Way → ℕ → Expr → ℕ → Type 0
Off14 m d k path u e n = (n ≡ k) × (Test14 m d path u e → ⊥)

abbrev pub Low14 : Meaning → Design → ℕ → List Way → ℕ → Expr → ℕ → Type 0
Low14 m d k path u e n = n < k → Test14 m d path u e

-- the same in a command, in block b if it is clocked, in the blocks below n, and in the clocked blocks of a design
abbrev pub Stayed : Meaning → Design → List Way → Cmd → Option ℕ → Type 0
Stayed m d path c r = LowestOf (Each Anything (Test14 m d) path c) (λ k. SomeAt (Off14 m d k) path c) (λ k. EachAt (Low14 m d k) path c) r

abbrev pub StayedIn : Meaning → File → ℕ → Option ℕ → Type 0
StayedIn m f b r = LowestOf
    (settled_at f b ≡ false → Each Anything (Test14 m (design_of f)) [] (body_at f b))
    (λ k. (settled_at f b ≡ false) × SomeAt (Off14 m (design_of f) k) [] (body_at f b))
    (λ k. settled_at f b ≡ false → EachAt (Low14 m (design_of f) k) [] (body_at f b)) r

abbrev pub StayedTo : Meaning → File → ℕ → Option ℕ → Type 0
StayedTo m f n r = LowestOf
    ((b : ℕ) → b < n → settled_at f b ≡ false → Each Anything (Test14 m (design_of f)) [] (body_at f b))
    (λ k. (b : ℕ) × (b < n) × (settled_at f b ≡ false) × SomeAt (Off14 m (design_of f) k) [] (body_at f b))
    (λ k. (b : ℕ) → b < n → settled_at f b ≡ false → EachAt (Low14 m (design_of f) k) [] (body_at f b)) r

abbrev pub Lowest14 : Meaning → Design → ℕ → Type 0
Lowest14 m d k = Least (λ k. SomeIn (Off14 m d k) d.clocked) (λ k. EachIn (Low14 m d k) d.clocked) k

abbrev pub StayedAll : Meaning → Design → Option ℕ → Type 0
StayedAll m d r = MatchOption r (Every Anything (Test14 m d) d.clocked) (Lowest14 m d)
