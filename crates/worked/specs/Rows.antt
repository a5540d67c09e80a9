-- Worked rows: small questions to the definitions, with answers worked by hand.
use Rattle.std.specs.Prelude.{◌≡◌, ℕ, false, List, [], ◌∷◌, slice_index}
use Rattle.lattice.specs.Meaning.{Meaning, Below, Joins, Meets}
use Rattle.lattice.specs.Kinds.{chain, sets, pair}
use Rattle.language.specs.Syntax.{Op, sum, difference, Design}
use Rattle.language.specs.Vectors.{operated}
use Rattle.language.specs.Machine.{Call, drive, step}
use Rattle.language.specs.Form.{Every, Formed}
use Rattle.language.specs.Typing.{Flows, Anything, Typed}
use Rattle.language.specs.Offences.{Breaks13, Breaks14}
use Rattle.worked.specs.Designs.{taking, remembering, in_one_branch, in_both_branches, clearing}

pub data Row : Type 0 where
  -- the join, and the meet, of a and b is r
  join_is meet_is : Meaning → (a b r : ℕ) → Row
  -- there are n levels
  count_is : Meaning → (n : ℕ) → Row
  -- a is at or below b, and is not
  is_below is_not_below : Meaning → (a b : ℕ) → Row
  -- the operation on x and y, in as many bits as the width says, gives r
  operation_is : (width : ℕ) → Op → (x y r : ℕ) → Row
  -- the design is formed, and keeps the typing rules under the lattice
  is_accepted : Meaning → Design → Row
  -- the design is formed, and its assignment in record n breaks rule 13: what flows is of level `flow`, the target of level `goal`
  breaks_rule_13 : Meaning → Design → (n flow goal : ℕ) → Row
  -- the design is formed and keeps rule 13, and its assignment in record n breaks rule 14, as none in a lower record does
  breaks_rule_14 : Meaning → Design → (n : ℕ) → Row
  -- where the variables hold these values, in their order, v holds x after the call
  is_held_after : Design → (before : List ℕ) → Call → (v x : ℕ) → Row

abbrev pub Holds : Row → Type 0
Holds (join_is m a b r) = Joins m a b r
Holds (meet_is m a b r) = Meets m a b r
Holds (count_is m n) = m.count ≡ n
Holds (is_below m a b) = Below m a b
Holds (is_not_below m a b) = m.below a b ≡ false
Holds (operation_is w o x y r) = operated w o x y ≡ r
Holds (is_accepted m d) = Formed d × Typed m d
Holds (breaks_rule_13 m d n flow goal) = Formed d × Breaks13 m d n flow goal
Holds (breaks_rule_14 m d n) =
    Formed d × Every Anything (Flows m d) d.settled × Every Anything (Flows m d) d.clocked × Breaks14 m d n
Holds (is_held_after d before c v x) = step d (λ u. slice_index before u) c v ≡ x

abbrev pub rows : List Row
rows =
    join_is (sets 3) 5 3 7
    ∷ meet_is (sets 3) 5 3 1
    ∷ count_is (pair (chain 2) (sets 2)) 8
    ∷ is_below (pair (chain 2) (sets 2)) 6 7
    ∷ is_not_below (pair (chain 2) (sets 2)) 6 5
    ∷ operation_is 8 sum 200 100 44
    ∷ operation_is 8 difference 3 5 254
    ∷ is_accepted (chain 2) (taking 1)
    ∷ breaks_rule_13 (chain 2) (taking 2) 0 1 0
    ∷ breaks_rule_14 (chain 2) (remembering in_one_branch) 0
    ∷ is_accepted (chain 2) (remembering in_both_branches)
    ∷ is_held_after clearing (1 ∷ 7 ∷ []) (drive 0 0) 1 0
    ∷ []
