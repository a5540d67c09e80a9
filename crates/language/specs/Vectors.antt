-- Arithmetic of unsigned vectors, as numbers; w is the width of the result.
use Rattle.std.specs.Prelude.{ℕ, ◌+◌, ◌-◌, ◌*◌, ◌/◌, ◌%◌, ◌^◌, Bool, cond, ◌==◌, bit_and, bit_or, bit_xor, nat_lt}
use Rattle.language.specs.Syntax.{Op, and, or, xor, sum, difference, equals, less}

abbrev pub bit : Bool → ℕ
bit b = cond b 1 0

abbrev pub complemented : ℕ → ℕ → ℕ
complemented w x = (2 ^ w - 1) - x

abbrev pub operated : ℕ → Op → ℕ → ℕ → ℕ
operated w and x y = bit_and x y
operated w or x y = bit_or x y
operated w xor x y = bit_xor x y
operated w sum x y = (x + y) % 2 ^ w
operated w difference x y = (x + 2 ^ w - y) % 2 ^ w
operated w equals x y = bit (x == y)
operated w less x y = bit (nat_lt x y)

abbrev pub shifted_left : ℕ → ℕ → ℕ → ℕ
shifted_left w x n = (x * 2 ^ n) % 2 ^ w

abbrev pub shifted_right : ℕ → ℕ → ℕ
shifted_right x n = x / 2 ^ n

-- the w bits from bit n up
abbrev pub part_from : ℕ → ℕ → ℕ → ℕ
part_from w n x = (x / 2 ^ n) % 2 ^ w

-- x above y, which is n wide
abbrev pub joined_above : ℕ → ℕ → ℕ → ℕ → ℕ
joined_above w n x y = (x * 2 ^ n + y) % 2 ^ w

abbrev pub chosen : ℕ → ℕ → ℕ → ℕ
chosen c x y = cond (c == 1) x y
