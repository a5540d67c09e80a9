-- What commands and expressions have in them, and blocks one after the other.
use Rattle.std.specs.Prelude.{ℕ, zero, suc, Bool, false, ◌&&◌, ◌||◌, ◌==◌}
use Rattle.language.specs.Syntax.{Expr, Cmd, constant, variable, complement, binary, shift_left, shift_right, part, above, choose, idle, seq, choice, assign}
use Rattle.language.specs.Form.{assigns}
use Rattle.records.specs.Trees.{body_at}
use Rattle.records.specs.Layouts.{File}

-- does record k of an expression read a variable of which p holds?
abbrev pub reads : (ℕ → Bool) → Expr → ℕ → Bool
reads p (constant w n) k = false
reads p (variable w v m) k = m == k && p v
reads p (complement w a) k = reads p a k
reads p (binary w o a b) k = reads p a k || reads p b k
reads p (shift_left w a n) k = reads p a k
reads p (shift_right w a n) k = reads p a k
reads p (part w n a) k = reads p a k
reads p (above w a b) k = reads p a k || reads p b k
reads p (choose w c a b) k = reads p c k || (reads p a k || reads p b k)

-- the same of a command, in its conditions and in what it assigns
abbrev pub reads_in : (ℕ → Bool) → Cmd → ℕ → Bool
reads_in p idle k = false
reads_in p (seq a b) k = reads_in p a k || reads_in p b k
reads_in p (choice e a b) k = reads p e k || (reads_in p a k || reads_in p b k)
reads_in p (assign u e m) k = reads p e k

-- does record k of a command assign a variable of which p holds?
abbrev pub writes : (ℕ → Bool) → Cmd → ℕ → Bool
writes p idle k = false
writes p (seq a b) k = writes p a k || writes p b k
writes p (choice e a b) k = writes p a k || writes p b k
writes p (assign u e m) k = m == k && p u

-- has a command two assignments of v that do not stand in opposite branches of a choice?
abbrev pub twice : Cmd → ℕ → Bool
twice idle v = false
twice (seq a b) v = assigns a v && assigns b v || (twice a v || twice b v)
twice (choice e a b) v = twice a v || twice b v
twice (assign u e k) v = false

-- blocks 0 to n - 1, one after the other
unfoldable pub blocks_to : File → ℕ → Cmd
blocks_to f zero = idle
blocks_to f (suc n) = seq (blocks_to f n) (body_at f n)
