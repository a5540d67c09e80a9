-- What the judge's values stand for: shapes, places of levels, and the sets and variables of a path.
use Rattle.std.specs.Prelude.{◌≡◌, ℕ, ◌<◌, false, List, [], slice_index_or}
use Rattle.language.specs.Form.{Way}
use Rattle.language.specs.Typing as rules
use Rattle.language.specs.Typing.{number, single, other, allows}
use Rattle.language.specs.Finite.{Sets, Place, always_at, value_of, any_of, among}
use Rattle.paths.specs.declared.conditions.Shape.{Shape}
use Rattle.paths.specs.declared.conditions.Shape.TheVariants.{Number, Single, Other}
use Rattle.paths.specs.declared.origins.Origin.{Origin}
use Rattle.paths.specs.declared.origins.Origin.TheVariants.{Always, ValueOf, AnyOf}
use Rattle.variables.specs.Variables.{has}
use Rattle.paths.specs.declared.values.ValueSets.{ValueSets}
use Rattle.paths.specs.declared.path.Path.{Path}

abbrev pub shape_of : Shape → rules.Shape
shape_of (Number n) = number n
shape_of (Single v) = single v
shape_of Other = other

abbrev pub place_of : Origin → Place
place_of (Always l) = always_at l
place_of (ValueOf t s) = value_of t s
place_of (AnyOf t w) = any_of t w

-- sixteen marks for each variable: which of its values are left
abbrev pub sets_of : ValueSets → Sets
sets_of s v x = slice_index_or (slice_index_or s.marks v []) x false

-- the marks are those of a path, for the variables and values that there can be
pub record Tracks (path : List Way) (p : Path) : Type 0 where
  pub values : (v x : ℕ) → v < 128 → x < 16 → sets_of p.values v x ≡ allows path v x
  pub variables : (v : ℕ) → v < 128 → has p.variables v ≡ among path v
