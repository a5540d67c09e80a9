-- How a design breaks the typing rules, and what a refusal may show of it.
use Rattle.std.specs.Prelude.{◌≡◌, ℕ, ◌<◌, true, false, ◌⊎◌, List, [], ◌∷◌, ◌++◌, map}
use Rattle.lattice.specs.Meaning.{Meaning, All, Joined}
use Rattle.language.specs.Syntax.{Expr, Cmd, Design, idle, seq, choice, assign, var}
use Rattle.language.specs.Machine.{Valuation, put, level}
use Rattle.language.specs.Form.{Way}
use Rattle.language.specs.Typing.{Fits, Allowed, sources, around, Coming, shape, Stays, Reaches, TableLevels, LabelLevel, Typed}

-- A holds of some assignment of a command, and of each: the path to it, its target, its expression and its record
abbrev pub SomeAt : (List Way → ℕ → Expr → ℕ → Type 0) → List Way → Cmd → Type 0
SomeAt A path idle = ⊥
SomeAt A path (seq a b) = SomeAt A path a ⊎ SomeAt A path b
SomeAt A path (choice e a b) = SomeAt A ((e, true) ∷ path) a ⊎ SomeAt A ((e, false) ∷ path) b
SomeAt A path (assign u e k) = A path u e k

abbrev pub EachAt : (List Way → ℕ → Expr → ℕ → Type 0) → List Way → Cmd → Type 0
EachAt A path idle = Unit
EachAt A path (seq a b) = EachAt A path a × EachAt A path b
EachAt A path (choice e a b) = EachAt A ((e, true) ∷ path) a × EachAt A ((e, false) ∷ path) b
EachAt A path (assign u e k) = A path u e k

-- the same of some block, and of each
abbrev pub SomeIn : (List Way → ℕ → Expr → ℕ → Type 0) → List Cmd → Type 0
SomeIn A [] = ⊥
SomeIn A (c ∷ cs) = SomeAt A [] c ⊎ SomeIn A cs

abbrev pub EachIn : (List Way → ℕ → Expr → ℕ → Type 0) → List Cmd → Type 0
EachIn A blocks = All (EachAt A []) blocks

-- n is the lowest number that breaks P: so the first table or label that breaks 11, and the first variable that breaks 12
pub record First (P : ℕ → Type 0) (n : ℕ) : Type 0 where
  pub here : P n → ⊥
  pub lower : (k : ℕ) → k < n → P k

-- at some allowed values the level of what flows into u is `flow`, the level of the target is `goal`, and the first is not at or below the second
pub record Shown (m : Meaning) (d : Design) (flow goal : ℕ) (path : List Way) (u : ℕ) (e : Expr) : Type 0 where
  pub values : Valuation
  pub fits : Fits d values
  pub allowed : Allowed d path values
  pub coming : ℕ
  pub comes : Coming values (var d u).width (shape e) coming
  pub flow_is : Joined m (map (level d values) (sources e ++ around path)) flow
  pub goal_is : goal ≡ level d (put values u coming) u
  pub not_below : m.below flow goal ≡ false

-- the assignment in record n breaks 13, as these two levels show
abbrev pub Breaks13 : Meaning → Design → ℕ → ℕ → ℕ → Type 0
Breaks13 m d n flow goal =
    SomeIn (λ path u e k. (k ≡ n) × Shown m d flow goal path u e) d.settled
    ⊎ SomeIn (λ path u e k. (k ≡ n) × Shown m d flow goal path u e) d.clocked

-- the assignment in record n breaks 14, and none with a lower record does
pub record Breaks14 (m : Meaning) (d : Design) (n : ℕ) : Type 0 where
  pub here : SomeIn (λ path u e k. (k ≡ n) × (Stays m d path u e → ⊥)) d.clocked
  pub lower : EachIn (λ path u e k. k < n → Stays m d path u e) d.clocked

-- a design that breaks a rule is not typed
pub record Condemned (m : Meaning) (d : Design) : Type 0 where
  pub table : (t : ℕ) → First (TableLevels m d) t → Typed m d → ⊥
  pub label : (v : ℕ) → First (LabelLevel m d) v → Typed m d → ⊥
  pub selector : (v : ℕ) → First (Reaches m d) v → Typed m d → ⊥
  pub flow : (n flow goal : ℕ) → Breaks13 m d n flow goal → Typed m d → ⊥
  pub condition : (n : ℕ) → Breaks14 m d n → Typed m d → ⊥

abbrev pub OffencesCondemn : Type 0
OffencesCondemn = (m : Meaning) (d : Design) → Condemned m d
