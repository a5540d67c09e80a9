-- What a shift leaves of a number.
use Rattle.std.proofs.Common.{arith, ◌≡◌, ℕ, ◌-◌, ◌*◌, ◌/◌, ◌%◌, ◌^◌, ◌<◌, ◌≤◌, pow_mono, pow-add}
use Rattle.std.proofs.Math.Pow.{mod-mod-pow}
use native.Mathlib.Nat.{div-eq_of_lt, mul-mod_left}

-- a shift to the left by the width or more leaves nothing of the lowest bits
pub left_past : (w x n : ℕ) → w ≤ n → x * 2 ^ n % 2 ^ w ≡ 0
left_past w x n h = grind (arith, pow-add 2 (n - w) w, mul-mod_left (x * 2 ^ (n - w)) (2 ^ w))

-- the lowest bits of the lowest 64 are the lowest of all
pub left_kept : (w y : ℕ) → w ≤ 64 → y % 2 ^ 64 % 2 ^ w ≡ y % 2 ^ w
left_kept w y h = grind (arith, mod-mod-pow y (64 - w) w)

-- nothing of a number below 2 ^ 32 stands at bit 32 or above
pub right_past : (x n : ℕ) → x < 2 ^ 32 → 32 ≤ n → x / 2 ^ n ≡ 0
right_past x n h le = grind (arith, div-eq_of_lt, pow_mono le)
