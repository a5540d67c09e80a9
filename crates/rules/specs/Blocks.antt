-- Which record breaks a rule about blocks: what they assign, when they read, and how labels are looked up.
use Rattle.std.specs.Prelude.{ℕ, Bool, true, false, not, ◌&&◌, ◌||◌, ◌==◌, nat_lt, Option, Some, None}
use Rattle.refusal.specs.declared.Section.{Section}
use Rattle.refusal.specs.declared.Section.TheVariants.{Tables, Variables, Blocks, Commands, Expressions}
use Rattle.language.specs.Form.{always}
use Rattle.records.specs.declared.codes.Kind.{Kind}
use Rattle.records.specs.declared.codes.Kind.TheVariants as kind
use Rattle.records.specs.declared.codes.Form.{Form}
use Rattle.records.specs.declared.codes.Form.TheVariants as form
use Rattle.records.specs.declared.cells.Variable.{Variable}
use Rattle.records.specs.Layouts.{File, count_in}
use Rattle.records.specs.Cells.{variable_at}
use Rattle.records.specs.Trees.{settled_at}
use Rattle.survey.specs.Sums.{any}
use Rattle.survey.specs.Walks.{twice, blocks_to}
use Rattle.survey.specs.Sets.{is_wire, reads_early, writes_wrong, follows_in}
use Rattle.rules.specs.Parts.{differ}
use Rattle.rules.specs.Widths.{var_wide}

-- ---- assignments

-- two assignments of v do not stand in opposite branches of a choice, or v is a wire that is not assigned on every path
abbrev pub unsettled : File → ℕ → Bool
unsettled f v = twice (blocks_to f (count_in f Blocks)) v || is_wire f v && not (always (blocks_to f (count_in f Blocks)) v)

abbrev pub clocked_at : File → ℕ → Bool
clocked_at f b = not (settled_at f b)

-- a settled block after a clocked one
abbrev pub late : File → ℕ → Bool
late f b = settled_at f b && any (clocked_at f) b

abbrev pub misassigns : File → Section → ℕ → Bool
misassigns f Tables n = false
misassigns f Variables n = unsettled f n
misassigns f Blocks n = late f n
misassigns f Commands n = any (writes_wrong f n) (count_in f Blocks)
misassigns f Expressions n = false

-- ---- readings

abbrev pub hasty : File → Section → ℕ → Bool
hasty f Tables n = false
hasty f Variables n = false
hasty f Blocks n = false
hasty f Commands n = false
hasty f Expressions n = any (reads_early f n) (count_in f Blocks)

-- ---- selectors

abbrev pub fixed_form : Option Form → Bool
fixed_form (Some form.Fixed) = true
fixed_form (Some form.LookedUp) = false
fixed_form None = true

-- some block that assigns v comes after one that assigns s
abbrev pub comes_after : File → ℕ → ℕ → Bool
comes_after f v s = any (follows_in f v s) (count_in f Blocks)

-- s may not be the selector of v, by the kind of v
abbrev pub wrong_by : File → Option Kind → ℕ → ℕ → Bool
wrong_by f (Some kind.Port) v s = s == v || is_wire f s
wrong_by f (Some kind.Register) v s = is_wire f s
wrong_by f (Some kind.Wire) v s = differ s v && (is_wire f s && not (comes_after f v s))
wrong_by f None v s = differ s v && (is_wire f s && not (comes_after f v s))

abbrev pub wrong_selector : File → Option Kind → ℕ → ℕ → Bool
wrong_selector f k v s = nat_lt 4 (var_wide f s) || (differ s v && not (fixed_form (variable_at f s).form) || wrong_by f k v s)

abbrev pub misled_by : File → Option Form → Option Kind → ℕ → ℕ → Bool
misled_by f (Some form.Fixed) k v s = false
misled_by f (Some form.LookedUp) k v s = wrong_selector f k v s
misled_by f None k v s = false

abbrev pub misled : File → Variable → ℕ → Bool
misled f x v = misled_by f x.form x.kind v x.level

abbrev pub misguided : File → Section → ℕ → Bool
misguided f Tables n = false
misguided f Variables n = misled f (variable_at f n) n
misguided f Blocks n = false
misguided f Commands n = false
misguided f Expressions n = false
