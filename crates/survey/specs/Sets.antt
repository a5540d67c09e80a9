-- What is found of the blocks: sets of variables, and marks on records.
use Rattle.std.specs.Prelude.{◌≡◌, ℕ, ◌<◌, Bool, true, false, not, ◌&&◌, ◌||◌, Option, Some, None, List, [], length, nat_lt, slice_index_or}
use Rattle.refusal.specs.declared.Section.TheVariants.{Variables, Blocks}
use Rattle.language.specs.Syntax.{Cmd}
use Rattle.language.specs.Form.{assigns, always}
use Rattle.records.specs.declared.codes.Kind.{Kind}
use Rattle.records.specs.declared.codes.Kind.TheVariants as kind
use Rattle.records.specs.Layouts.{File, count_in}
use Rattle.records.specs.Cells.{variable_at}
use Rattle.records.specs.Trees.{body_at, settled_at}
use Rattle.survey.specs.Sums.{any}
use Rattle.survey.specs.Walks.{reads_in, writes, twice, blocks_to}
use Rattle.variables.specs.declared.sets.VariableSet.{VariableSet}
use Rattle.variables.specs.Variables.{has}
use Rattle.survey.specs.declared.reach.Reach.{Reach}
use Rattle.survey.specs.declared.reach.BlockSets.{BlockSets}
use Rattle.survey.specs.declared.survey.Findings.{Findings}

-- ---- kinds of variables

-- a kind that is unknown counts as a wire, as in the design described
abbrev pub wire_kind : Option Kind → Bool
wire_kind (Some kind.Port) = false
wire_kind (Some kind.Register) = false
wire_kind (Some kind.Wire) = true
wire_kind None = true

abbrev pub register_kind : Option Kind → Bool
register_kind (Some kind.Port) = false
register_kind (Some kind.Register) = true
register_kind (Some kind.Wire) = false
register_kind None = false

-- v is a wire, a register
abbrev pub is_wire : File → ℕ → Bool
is_wire f v = nat_lt v (count_in f Variables) && wire_kind (variable_at f v).kind

abbrev pub is_register : File → ℕ → Bool
is_register f v = nat_lt v (count_in f Variables) && register_kind (variable_at f v).kind

-- ---- what a block may not read or write

-- v is a wire that is not yet known
abbrev pub unready : File → (ℕ → Bool) → ℕ → Bool
unready f known v = is_wire f v && not (known v)

-- settled blocks assign wires, the others registers
abbrev pub wrong_target : File → Bool → ℕ → Bool
wrong_target f true v = not (is_wire f v)
wrong_target f false v = not (is_register f v)

-- record e of block b reads a wire that no block before assigns
abbrev pub reads_early : File → ℕ → ℕ → Bool
reads_early f e b = reads_in (unready f (assigns (blocks_to f b))) (body_at f b) e

-- record n of block b assigns a variable that the block may not assign
abbrev pub writes_wrong : File → ℕ → ℕ → Bool
writes_wrong f n b = writes (wrong_target f (settled_at f b)) (body_at f b) n

-- block b assigns v, and a block before it assigns s
abbrev pub follows_in : File → ℕ → ℕ → ℕ → Bool
follows_in f v s b = assigns (body_at f b) v && assigns (blocks_to f b) s

-- ---- lists of answers

-- the variables of which p holds
abbrev pub Lists : VariableSet → (ℕ → Bool) → Type 0
Lists s p = (v : ℕ) → v < 128 → has s v ≡ p v

-- block b of a list of blocks' sets
abbrev pub block_in : List BlockSets → ℕ → BlockSets
block_in each b = slice_index_or each b (record { own = record { marks = [] }; before = record { marks = [] } })

-- block b assigns v, and a block before it assigns s
abbrev pub after_in : List BlockSets → ℕ → ℕ → ℕ → Bool
after_in each v s b = has (block_in each b).own v && has (block_in each b).before s

-- how a command assigns each variable: somewhere, on every path, twice
pub record Reaches (c : Cmd) (r : Reach) : Type 0 where
  pub some : Lists r.some (assigns c)
  pub always : Lists r.always (always c)
  pub twice : Lists r.twice (twice c)

-- what block b and those before it assign
pub record InBlock (f : File) (b : ℕ) (x : BlockSets) : Type 0 where
  pub own : Lists x.own (assigns (body_at f b))
  pub before : Lists x.before (assigns (blocks_to f b))

-- what the blocks below n assign, one after the other and each
pub record Assigns (f : File) (n : ℕ) (all : Reach) (each : List BlockSets) : Type 0 where
  pub together : Reaches (blocks_to f n) all
  pub apart : (b : ℕ) → b < n → InBlock f b (block_in each b)

-- the records marked are those of which t holds
abbrev pub Marked : List Bool → (ℕ → Bool) → Type 0
Marked xs t = (k : ℕ) → k < length xs → slice_index_or xs k false ≡ t k

-- and the records of which p holds were marked besides
abbrev pub Marks : List Bool → List Bool → (ℕ → Bool) → Type 0
Marks xs ys p = (t : ℕ → Bool) → Marked xs t → Marked ys (λ k. t k || p k)

-- what a walk of all blocks finds
pub record Surveyed (f : File) (s : Findings) : Type 0 where
  pub assigned : Assigns f (count_in f Blocks) s.assigned.all s.assigned.each
  pub early : Marked s.early (λ e. any (reads_early f e) (count_in f Blocks))
  pub wrong : Marked s.wrong (λ n. any (writes_wrong f n) (count_in f Blocks))
