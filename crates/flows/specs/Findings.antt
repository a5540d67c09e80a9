-- What the tests of one assignment find, and what is shown of a leak.
use Rattle.std.specs.Prelude.{◌≡◌, ℕ, ◌<◌, ◌≤◌, Bool, true, false, List, ◌++◌, Result, MatchResult}
use Rattle.lattice.specs.Meaning.{Meaning, Below, All}
use Rattle.language.specs.Syntax.{Expr, Cmd, Design, count, var}
use Rattle.language.specs.Machine.{Valuation, put, level, inside}
use Rattle.language.specs.Form.{Way, Each}
use Rattle.language.specs.Typing.{Shape, Fits, Coming, sources, around, Anything}
use Rattle.language.specs.Finite.{Sets, Place, always_at, value_of, any_of, label_place, Tries, One, level_at, Possible, Test13}
use Rattle.language.specs.Offences.{Shown, SomeAt}
use Rattle.flows.specs.declared.offences.Offence.{Offence}
use Rattle.flows.specs.declared.leaks.Leak.{Leak}

-- at x and y the level at p is not at or below the level at q
pub record Clash (m : Meaning) (d : Design) (sets : Sets) (p q : Place) (x y : ℕ) : Type 0 where
  pub first : Tries d sets p x
  pub second : Tries d sets q y
  pub one : One p q x y
  pub apart : m.below (level_at d p x) (level_at d q y) ≡ false

-- variable v is not under q, as the values show
pub record Clashes (m : Meaning) (d : Design) (sets : Sets) (q : Place) (v : ℕ) (o : Offence) : Type 0 where
  pub variable : v ≡ o.variable
  pub clash : Clash m d sets (label_place (var d v).label) q o.x o.y

-- a variable of a flow is not under q
pub record Offends (m : Meaning) (d : Design) (sets : Sets) (flow : ℕ → Bool) (q : Place) (o : Offence) : Type 0 where
  pub possible : Possible d sets
  pub variable : inside d o.variable ≡ true
  pub flows : flow o.variable ≡ true
  pub clash : Clash m d sets (label_place (var d o.variable).label) q o.x o.y

-- all that an assignment reads is a variable
abbrev pub ReadsInside : Design → List Way → Expr → Type 0
ReadsInside d path e = All (λ v. inside d v ≡ true) (sources e ++ around path)

-- the assignment in record k breaks 13, as the leak shows
pub record Breach (m : Meaning) (d : Design) (b : Leak) (path : List Way) (u : ℕ) (e : Expr) (k : ℕ) : Type 0 where
  pub here : k ≡ b.command
  pub shown : ReadsInside d path e → Shown m d b.flow b.target path u e

-- what a walk over a command finds
abbrev pub Walked : Meaning → Design → Result (Unit {0}) Leak → List Way → Cmd → Type 0
Walked m d r path c = MatchResult r (λ _. Each Anything (Test13 m d) path c) (λ b. SomeAt (Breach m d b) path c)

-- ---- values that are shown

-- each value fits its variable, and the sets leave it
pub record Suited (d : Design) (sets : Sets) (ρ : Valuation) : Type 0 where
  pub fits : Fits d ρ
  pub kept : (v : ℕ) → inside d v ≡ true → (var d v).width ≤ 4 → sets v (ρ v) ≡ true

-- the place looks at no variable past the most
abbrev pub Looks : Place → Type 0
Looks (always_at l) = Unit {0}
Looks (value_of t s) = s < 128
Looks (any_of t w) = Unit {0}

-- the values with x where the place looks
abbrev pub filled : Place → Valuation → ℕ → Valuation
filled (always_at l) ρ x = ρ
filled (value_of t s) ρ x = put ρ s x
filled (any_of t w) ρ x = ρ

-- r is the least level at or above the levels of the flow's variables below n
pub record JoinBelow (m : Meaning) (d : Design) (ρ : Valuation) (flow : ℕ → Bool) (n r : ℕ) : Type 0 where
  pub is_level : r < m.count
  pub above : (v : ℕ) → v < n → flow v ≡ true → Below m (level d ρ v) r
  pub least : (t : ℕ) → t < m.count → ((v : ℕ) → v < n → flow v ≡ true → Below m (level d ρ v) t) → Below m r t

-- a and b are the levels of the flow and of the target u, at some values that the sets leave, where an expression of this shape is assigned
pub record Exposes (m : Meaning) (d : Design) (sets : Sets) (flow : ℕ → Bool) (u : ℕ) (e : Shape) (a b : ℕ) : Type 0 where
  pub values : Valuation
  pub suited : Suited d sets values
  pub coming : ℕ
  pub comes : Coming values (var d u).width e coming
  pub join : JoinBelow m d values flow (count d) a
  pub goal_is : b ≡ level d (put values u coming) u
  pub not_below : m.below a b ≡ false
