-- What is to be tried where a level comes from.
use Rattle.std.specs.Prelude.{◌≡◌, ℕ, ◌<◌, false, Decides, slice_index, slice_index_or}
use Rattle.language.specs.Syntax.{Design}
use Rattle.language.specs.Finite.{Sets, Tries, level_at}
use Rattle.paths.specs.Marks.{place_of}
use Rattle.paths.specs.declared.trials.Trials.{Trials}

-- the trials say which values are tried at their origin, and which level is there; no other value is tried
pub record Tabled (d : Design) (sets : Sets) (t : Trials) : Type 0 where
  pub tried : (x : ℕ) → x < 16 → Decides (slice_index_or t.tried x false) (Tries d sets (place_of t.origin) x)
  pub levels : (x : ℕ) → x < 16 → slice_index t.levels x ≡ level_at d (place_of t.origin) x
  pub few : (x : ℕ) → Tries d sets (place_of t.origin) x → x < 16
