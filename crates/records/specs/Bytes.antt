-- What stands in a file's bytes.
use Rattle.std.specs.Prelude.{ℕ, ◌+◌, ◌*◌, List, slice_index}

-- four bytes from `at` on, least first; bytes past the end count as 0
abbrev pub field_of : List ℕ → ℕ → ℕ
field_of s at = slice_index s at + slice_index s (at + 1) * 256 + slice_index s (at + 2) * 65536 + slice_index s (at + 3) * 16777216
