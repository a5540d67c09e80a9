use Rattle.std.proofs.Common.{◌≡◌, ℕ, ◌/◌, ◌<◌, nat_eq, nat_lt, rules, arith}
use Rattle.std.proofs.Math.Nat.{div-lt_iff_lt-mul}
use Rattle.vectors.proofs.fits.Goals as goal

none_past : (x p : ℕ) → 0 < p → nat_eq (x / p) 0 ≡ nat_lt x p
none_past x p pos = grind (arith, div-lt_iff_lt-mul {k = p} {x = x} {y = 1} pos)

pub returns : goal.returns
returns c = search (rules, none_past)
