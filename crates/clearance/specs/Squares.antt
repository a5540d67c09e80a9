-- Rows and columns of a table of at most 16 levels.
use Rattle.std.proofs.Common.{◌≡◌, ℕ, ◌+◌, ◌*◌, ◌/◌, ◌%◌, ◌<◌, ◌≤◌, ⊎_elim, arith}
use Rattle.std.proofs.lemmas.Bool.{cases_eq}
use Rattle.std.proofs.lemmas.Nat.{mul-le, mul-add-lt, div_below, mod_below}

pub square : (n : ℕ) → n ≤ 16 → n * n ≤ 256
square n h = mul-le n n 16 16 h h

-- a square with a place in it has a row
pub some_row : (n k : ℕ) → k < n * n → 1 ≤ n
some_row n k h = ⊎_elim (λ (e : n ≡ 0). let z : n * n ≡ 0 = rw e in omega arith) (λ (ne : n ≡ 0 → ⊥). omega arith) (cases_eq n 0)

pub row_below : (n k : ℕ) → k < n * n → k / n < n
row_below n k h = div_below k n n (some_row n k h) h

pub column_below : (n k : ℕ) → k < n * n → k % n < n
column_below n k h = mod_below k n (some_row n k h)

pub cell_below : (n a b : ℕ) → a < n → b < n → a * n + b < n * n
cell_below n a b h k = mul-add-lt a n b n h k
