-- The rules as a judge can test them: each variable of a flow against the target, at the few values that matter.
use Rattle.std.specs.Prelude.{◌≡◌, ℕ, ◌^◌, ◌<◌, ◌≤◌, Bool, true, false, cond, ◌||◌, ◌↔◌, List, [], ◌∷◌, length, ◌==◌}
use Rattle.lattice.specs.Meaning.{Meaning, Below, Laws}
use Rattle.language.specs.Syntax.{Expr, Label, Design, constant, variable, complement, binary, shift_left, shift_right, part, above, choose, fixed, looked_up, var, entry, together}
use Rattle.language.specs.Machine.{inside}
use Rattle.language.specs.Form.{Way, Every, always, Formed}
use Rattle.language.specs.Typing.{Shape, number, single, other, shape, allows, TableLevels, LabelLevel, Anything, Typed}

-- which values may each variable have?
abbrev pub Sets : Type 0
Sets = ℕ → ℕ → Bool

-- the sets leave v the value x. Only the sixteen values of a variable up to 4 wide are ever asked for.
pub record May (d : Design) (sets : Sets) (v x : ℕ) : Type 0 where
  pub variable : inside d v ≡ true
  pub small : x < 16
  pub fits : x < 2 ^ (var d v).width
  pub left : sets v x ≡ true

-- no set is empty
abbrev pub Possible : Design → Sets → Type 0
Possible d sets = (v : ℕ) → inside d v ≡ true → (var d v).width ≤ 4 → (x : ℕ) × May d sets v x

-- ---- where a level comes from

-- it is l, or t's entry at the value of s, or t's entry at any value of the width w
pub data Place : Type 0 where
  always_at : (l : ℕ) → Place
  value_of : (t s : ℕ) → Place
  any_of : (t w : ℕ) → Place

abbrev pub label_place : Label → Place
label_place (fixed l) = always_at l
label_place (looked_up t s) = value_of t s

abbrev pub coming_place : Design → ℕ → ℕ → Shape → Place
coming_place d t w (number n) = always_at (entry d t n)
coming_place d t w (single v) = value_of t v
coming_place d t w other = any_of t w

abbrev pub target_by : Design → ℕ → Shape → Label → Place
target_by d u e (fixed l) = always_at l
target_by d u e (looked_up t s) = cond (s == u) (coming_place d t (var d u).width e) (value_of t s)

-- of the target u, where an expression of this shape is assigned
abbrev pub target_place : Design → ℕ → Shape → Place
target_place d u e = target_by d u e (var d u).label

-- the values to try at a place
abbrev pub Tries : Design → Sets → Place → ℕ → Type 0
Tries d sets (always_at l) x = x ≡ 0
Tries d sets (value_of t s) x = May d sets s x
Tries d sets (any_of t w) x = (x < 16) × (x < 2 ^ w)

-- the level there
abbrev pub level_at : Design → Place → ℕ → ℕ
level_at d (always_at l) x = l
level_at d (value_of t s) x = entry d t x
level_at d (any_of t w) x = entry d t x

-- one variable has one value: two places that look at it try the same
abbrev pub OneBy : ℕ → ℕ → ℕ → Place → Type 0
OneBy s x y (always_at l) = Unit
OneBy s x y (value_of t r) = s ≡ r → x ≡ y
OneBy s x y (any_of t w) = Unit

abbrev pub One : Place → Place → ℕ → ℕ → Type 0
One (always_at l) q x y = Unit
One (value_of t s) q x y = OneBy s x y q
One (any_of t w) q x y = Unit

abbrev pub Under : Meaning → Design → Sets → Place → Place → Type 0
Under m d sets p q = (x y : ℕ) → Tries d sets p x → Tries d sets q y → One p q x y → Below m (level_at d p x) (level_at d q y)

-- ---- the tests

-- does an expression read v? does a condition around?
abbrev pub mentions : Expr → ℕ → Bool
mentions (constant w n) v = false
mentions (variable w u k) v = u == v
mentions (complement w a) v = mentions a v
mentions (binary w o a b) v = mentions a v || mentions b v
mentions (shift_left w a n) v = mentions a v
mentions (shift_right w a n) v = mentions a v
mentions (part w n a) v = mentions a v
mentions (above w a b) v = mentions a v || mentions b v
mentions (choose w c a b) v = mentions c v || (mentions a v || mentions b v)

abbrev pub among : List Way → ℕ → Bool
among [] v = false
among (c ∷ path) v = mentions c.0 v || among path v

-- each variable of a flow is under the place q, unless a set is empty
abbrev pub AllUnder : Meaning → Design → Sets → (ℕ → Bool) → Place → Type 0
AllUnder m d sets flow q = Possible d sets → (v : ℕ) → inside d v ≡ true → flow v ≡ true → Under m d sets (label_place (var d v).label) q

abbrev pub Test12 : Meaning → Design → ℕ → Type 0
Test12 m d v =
    (t s l : ℕ) → (var d v).label ≡ looked_up t s → (var d s).label ≡ fixed l
    → (x : ℕ) → x < 16 → x < 2 ^ (var d s).width → Below m l (entry d t x)

abbrev pub Test13 : Meaning → Design → List Way → ℕ → Expr → Type 0
Test13 m d path u e = AllUnder m d (allows path) (λ v. mentions e v || among path v) (target_place d u (shape e))

abbrev pub Test14 : Meaning → Design → List Way → ℕ → Expr → Type 0
Test14 m d path u e =
    (t : ℕ) → (var d u).label ≡ looked_up t u → always (together d.clocked) u ≡ false
    → AllUnder m d (allows path) (among path) (value_of t u)

pub record Passes (m : Meaning) (d : Design) : Type 0 where
  pub tables : (t : ℕ) → t < length d.tables → TableLevels m d t
  pub labels : (v : ℕ) → inside d v ≡ true → LabelLevel m d v
  pub reaches : (v : ℕ) → inside d v ≡ true → Test12 m d v
  pub settled_flows : Every Anything (Test13 m d) d.settled
  pub clocked_flows : Every Anything (Test13 m d) d.clocked
  pub stays : Every Anything (Test14 m d) d.clocked

-- the tests pass exactly where the rules hold
abbrev pub TestsAreExact : Type 0
TestsAreExact = (m : Meaning) (d : Design) → Laws m → Formed d → Passes m d ↔ Typed m d
