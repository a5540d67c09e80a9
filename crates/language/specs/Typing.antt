-- Which designs are typed under a lattice. A rule has the number of the refusal that a design gets for breaking it.
-- Rules 13 and 14 speak of all values that the path to an assignment allows.
use Rattle.std.specs.Prelude.{◌≡◌, ℕ, ◌^◌, ◌<◌, ◌≤◌, Bool, true, false, cond, not, ◌&&◌, ◌||◌, List, [], ◌∷◌, ◌++◌, map, ◌==◌}
use Rattle.lattice.specs.Meaning.{Meaning, Below, Joined}
use Rattle.language.specs.Syntax.{Expr, Design, and, or, xor, sum, difference, equals, less, constant, variable, complement, binary, shift_left, shift_right, part, above, choose, fixed, looked_up, var, entry, vars, together}
use Rattle.language.specs.Machine.{Valuation, put, level, inside}
use Rattle.language.specs.Form.{Way, Every, always}

-- ---- what a path allows

-- what the rules look for in an expression
pub data Shape : Type 0 where
  number : (n : ℕ) → Shape
  single : (v : ℕ) → Shape
  other : Shape

abbrev pub shape : Expr → Shape
shape (constant w n) = number n
shape (variable w v k) = single v
shape (complement w a) = other
shape (binary w o a b) = other
shape (shift_left w a n) = other
shape (shift_right w a n) = other
shape (part w n a) = other
shape (above w a b) = other
shape (choose w c a b) = other

-- where the test of u against n comes out as `way`, may v be x?
abbrev pub pins : Bool → ℕ → ℕ → ℕ → ℕ → Bool
pins true u n v x = cond (u == v) (x == n) true
pins false u n v x = cond (u == v) (not (x == n)) true

abbrev pub equates : Bool → Shape → Shape → ℕ → ℕ → Bool
equates way (single u) (number n) v x = pins way u n v x
equates way (number n) (single u) v x = pins way u n v x
equates way (single u) (single k) v x = true
equates way (number n) (number k) v x = true
equates way (single u) other v x = true
equates way (number n) other v x = true
equates way other s v x = true

-- where a condition is 1 (true) or 0 (false), may v be x? The parts that this looks into are 1 wide, as the condition is.
abbrev pub leaves : Expr → Bool → ℕ → ℕ → Bool
leaves (constant w n) way v x = true
leaves (variable w u k) way v x = pins way u 1 v x
leaves (complement w a) way v x = leaves a (not way) v x
leaves (binary w and a b) true v x = leaves a true v x && leaves b true v x
leaves (binary w and a b) false v x = leaves a false v x || leaves b false v x
leaves (binary w or a b) true v x = leaves a true v x || leaves b true v x
leaves (binary w or a b) false v x = leaves a false v x && leaves b false v x
leaves (binary w equals a b) way v x = equates way (shape a) (shape b) v x
leaves (binary w xor a b) way v x = true
leaves (binary w sum a b) way v x = true
leaves (binary w difference a b) way v x = true
leaves (binary w less a b) way v x = true
leaves (shift_left w a n) way v x = true
leaves (shift_right w a n) way v x = true
leaves (part w n a) way v x = true
leaves (above w a b) way v x = true
leaves (choose w c a b) way v x = true

-- may v be x on a path? Each of its conditions leaves it that.
abbrev pub allows : List Way → ℕ → ℕ → Bool
allows [] v x = true
allows (c ∷ path) v x = leaves c.0 c.1 v x && allows path v x

-- each variable has a value of its width
abbrev pub Fits : Design → Valuation → Type 0
Fits d ρ = (v : ℕ) → ρ v < 2 ^ (var d v).width

-- the path allows the values of all variables up to 4 wide
abbrev pub Allowed : Design → List Way → Valuation → Type 0
Allowed d path ρ = (v : ℕ) → inside d v ≡ true → (var d v).width ≤ 4 → allows path v (ρ v) ≡ true

-- ---- flows

-- the variables that an expression is taken to read
abbrev pub sources : Expr → List ℕ
sources e = vars e

-- those in the conditions around
abbrev pub around : List Way → List ℕ
around [] = []
around (c ∷ path) = sources c.0 ++ around path

-- x may be the value that comes to a target of the width w
abbrev pub Coming : Valuation → ℕ → Shape → ℕ → Type 0
Coming ρ w (number n) x = x ≡ n
Coming ρ w (single v) x = x ≡ ρ v
Coming ρ w other x = x < 2 ^ w

-- 13: what is assigned, and the conditions around, are at or below the level that the target has with the value that comes
-- (which matters only to a target that is its own selector)
abbrev pub Flows : Meaning → Design → List Way → ℕ → Expr → Type 0
Flows m d path u e =
    (ρ : Valuation) → Fits d ρ → Allowed d path ρ
    → (x : ℕ) → Coming ρ (var d u).width (shape e) x
    → (j : ℕ) → Joined m (map (level d ρ) (sources e ++ around path)) j
    → Below m j (level d (put ρ u x) u)

-- 14: where a register is its own selector and is not assigned on every path, the conditions around an assignment of it
-- are at or below the level of its present value
abbrev pub Stays : Meaning → Design → List Way → ℕ → Expr → Type 0
Stays m d path u e =
    (t : ℕ) → (var d u).label ≡ looked_up t u → always (together d.clocked) u ≡ false
    → (ρ : Valuation) → Fits d ρ → Allowed d path ρ
    → (j : ℕ) → Joined m (map (level d ρ) (around path)) j
    → Below m j (level d ρ u)

-- 12: a selector with a fixed level has it at or below each entry that its values reach
abbrev pub Reaches : Meaning → Design → ℕ → Type 0
Reaches m d v =
    (t s l : ℕ) → (var d v).label ≡ looked_up t s → (var d s).label ≡ fixed l
    → (x : ℕ) → x < 2 ^ (var d s).width → Below m l (entry d t x)

-- 11: every table entry and every fixed label is a level
abbrev pub TableLevels : Meaning → Design → ℕ → Type 0
TableLevels m d t = (i : ℕ) → entry d t i < m.count

abbrev pub LabelLevel : Meaning → Design → ℕ → Type 0
LabelLevel m d v = (l : ℕ) → (var d v).label ≡ fixed l → l < m.count

pub record Levelled (m : Meaning) (d : Design) : Type 0 where
  pub entries : (t : ℕ) → TableLevels m d t
  pub labels : (v : ℕ) → LabelLevel m d v

-- no rule here asks anything of a condition by itself
abbrev pub Anything : Expr → Type 0
Anything e = Unit

pub record Typed (m : Meaning) (d : Design) : Type 0 where
  pub levelled : Levelled m d
  pub reaches : (v : ℕ) → Reaches m d v
  pub settled_flows : Every Anything (Flows m d) d.settled
  pub clocked_flows : Every Anything (Flows m d) d.clocked
  pub stays : Every Anything (Stays m d) d.clocked
