-- A table as text: n lines of n digits, each line with a line end, which the last may lack.
use Rattle.std.specs.Prelude.{◌≡◌, ℕ, zero, suc, ◌+◌, ◌-◌, ◌*◌, ◌/◌, ◌<◌, Bool, cond, ◌||◌, ◌⊎◌, List, map, length, ◌==◌, slice_index}
use Rattle.std.specs.List.{range_with_len}

-- a line begins at the first byte, and after each line end
abbrev pub begins : List ℕ → ℕ → Bool
begins text i = i == 0 || slice_index text (i - 1) == 10

-- how many numbers below n pass
abbrev pub tally : (ℕ → Bool) → ℕ → ℕ
tally p zero = 0
tally p (suc n) = tally p n + cond (p n) 1 0

abbrev pub line_count : List ℕ → ℕ
line_count text = tally (begins text) (length text)

-- each of the n lines is n bytes long: line a begins at byte a × (n + 1)
pub record Ruled (n : ℕ) (text : List ℕ) : Type 0 where
  pub size : (length text ≡ n * (n + 1)) ⊎ (length text + 1 ≡ n * (n + 1))
  pub ends : (a : ℕ) → a < n → a * (n + 1) + n < length text → slice_index text (a * (n + 1) + n) ≡ 10

-- what a byte says: 0, 1, or neither, for which 2 stands since no table may hold it
abbrev pub digit : ℕ → ℕ
digit b = cond (b == 48) 0 (cond (b == 49) 1 2)

-- row a, column b is cell a × n + b, and byte a × (n + 1) + b
abbrev pub cell : ℕ → List ℕ → ℕ → ℕ
cell n text k = digit (slice_index text (k + k / n))

abbrev pub cells : ℕ → List ℕ → List ℕ
cells n text = map (cell n text) (range_with_len 0 (n * n))
