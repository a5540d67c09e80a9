-- A condition takes no value from a variable that it does not read.
use Rattle.std.proofs.Common.{◌≡◌, ℕ, Bool, true, false, not, eqb, refl}
use Rattle.std.proofs.lemmas.Bool.{or_parts, and_from, or_left, cond-false}
use Rattle.language.specs.Syntax.{Expr, and, or, xor, sum, difference, equals, less, constant, variable, complement, binary, shift_left, shift_right, part, above, choose}
use Rattle.language.specs.Typing.{Shape, number, single, other, shape, pins, equates, leaves}
use Rattle.language.specs.Finite.{mentions}

pins_other : (way : Bool) (u n v x : ℕ) → eqb u v ≡ false → pins way u n v x ≡ true
pins_other true u n v x h = cond-false (eqb u v) _ _ h
pins_other false u n v x h = cond-false (eqb u v) _ _ h

-- v is not the single variable of the shape
ApartFrom : ℕ → Shape → Type 0
ApartFrom v (number n) = Unit {0}
ApartFrom v (single u) = eqb u v ≡ false
ApartFrom v other = Unit {0}

module _ (v x : ℕ) where
  unread_shape : (e : Expr) → mentions e v ≡ false → ApartFrom v (shape e)
  unfolding ApartFrom
  unread_shape (constant w n) h = tt
  unread_shape (variable w u k) h = h
  unread_shape (complement w a) h = tt
  unread_shape (binary w o a b) h = tt
  unread_shape (shift_left w a n) h = tt
  unread_shape (shift_right w a n) h = tt
  unread_shape (part w n a) h = tt
  unread_shape (above w a b) h = tt
  unread_shape (choose w c a b) h = tt

  equates_other : (way : Bool) (a b : Shape) → ApartFrom v a → ApartFrom v b → equates way a b v x ≡ true
  unfolding ApartFrom
  equates_other way (single u) (number n) h k = pins_other way u n v x h
  equates_other way (number n) (single u) h k = pins_other way u n v x k
  equates_other way (single u) (single n) h k = refl
  equates_other way (number n) (number m) h k = refl
  equates_other way (single u) other h k = refl
  equates_other way (number n) other h k = refl
  equates_other way other s h k = refl

  -- a condition leaves a variable that it does not read every value
  pub unread_leaves : (e : Expr) (way : Bool) → mentions e v ≡ false → leaves e way v x ≡ true
  unread_leaves (constant w n) way h = refl
  unread_leaves (variable w u k) way h = pins_other way u 1 v x h
  unread_leaves (complement w a) way h = unread_leaves a (not way) h
  unread_leaves (binary w and a b) true h = let p = or_parts (mentions a v) (mentions b v) h in
      and_from (leaves a true v x) (leaves b true v x) (unread_leaves a true p.0) (unread_leaves b true p.1)
  unread_leaves (binary w and a b) false h = let p = or_parts (mentions a v) (mentions b v) h in
      or_left (leaves a false v x) (leaves b false v x) (unread_leaves a false p.0)
  unread_leaves (binary w or a b) true h = let p = or_parts (mentions a v) (mentions b v) h in
      or_left (leaves a true v x) (leaves b true v x) (unread_leaves a true p.0)
  unread_leaves (binary w or a b) false h = let p = or_parts (mentions a v) (mentions b v) h in
      and_from (leaves a false v x) (leaves b false v x) (unread_leaves a false p.0) (unread_leaves b false p.1)
  unread_leaves (binary w equals a b) way h = let p = or_parts (mentions a v) (mentions b v) h in
      equates_other way (shape a) (shape b) (unread_shape a p.0) (unread_shape b p.1)
  unread_leaves (binary w xor a b) way h = refl
  unread_leaves (binary w sum a b) way h = refl
  unread_leaves (binary w difference a b) way h = refl
  unread_leaves (binary w less a b) way h = refl
  unread_leaves (shift_left w a n) way h = refl
  unread_leaves (shift_right w a n) way h = refl
  unread_leaves (part w n a) way h = refl
  unread_leaves (above w a b) way h = refl
  unread_leaves (choose w c a b) way h = refl
