-- What is held of each variable: which belong to a set, and the value of each.
use Rattle.std.specs.Prelude.{◌≡◌, ℕ, ◌<◌, Bool, false, cond, ◌&&◌, nat_lt, slice_index, slice_index_or}
use Rattle.language.specs.Machine.{Valuation}
use Rattle.variables.specs.declared.sets.VariableSet.{VariableSet}
use Rattle.variables.specs.declared.values.Values.{Values}

-- does v belong? A number of 128 or more never does
abbrev pub has : VariableSet → ℕ → Bool
has s v = nat_lt v 128 && slice_index_or s.marks v false

-- the value of v; past the last variable it is 0
abbrev pub value_of : Values → Valuation
value_of h v = cond (nat_lt v 128) (slice_index h.values v) 0

-- the values are those of σ, for every variable that a design can have
abbrev pub Holds : Values → Valuation → Type 0
Holds h σ = (v : ℕ) → v < 128 → value_of h v ≡ σ v
