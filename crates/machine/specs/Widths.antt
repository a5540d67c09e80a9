-- The widths of the expressions that a file describes.
use Rattle.std.specs.Prelude.{ℕ, ◌≤◌}
use Rattle.language.specs.Syntax.{Expr, constant, width}

abbrev pub Wide : ℕ → Type 0
Wide w = (1 ≤ w) × (w ≤ 32)

-- an expression that does more than stand for a constant has a width of 1 to 32
abbrev pub Sized : Expr → Type 0
Sized (constant w n) = w ≤ 32
Sized e = Wide (width e)
