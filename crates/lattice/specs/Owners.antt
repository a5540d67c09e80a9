-- The sets of k owners keep the laws, and what their join and meet are.
use Rattle.std.proofs.Common.{◌≡◌, ℕ, ◌-◌, ◌^◌, ◌<◌, ◌≤◌, true, Decides, refl, ◌∙◌, lt_of_le_of_lt, mod-eq_of_lt, pow_pos, pow_mono}
use lib.Pow.{ones_lt}
use lib.Bits.{bit_and, bit_or, and_self, or_lt, and_le_l, and_mask}
use Rattle.std.proofs.lemmas.Bool.{eqb-true, ltb-true, eq-eqb, lt-ltb, and_parts, and_from}
use Rattle.lattice.specs.Bitsets.{Within, within_le, within_antisym, within_trans, or_left, or_right, or_least, and_left, and_right, and_most, within_owners, owners_within}
use Rattle.lattice.specs.Meaning.{Ordered, Laws, LeastAbove, GreatestBelow, Joins, Meets, Lowest, Highest}
use Rattle.lattice.specs.Kinds.{sets, Subset}

module _ (k : ℕ) where
  pub to : (a b : ℕ) → Within a b → b < 2 ^ k → (sets k).below a b ≡ true
  to a b h l = and_from _ _ (eq-eqb (bit_and a b) a h) (lt-ltb b (2 ^ k) l)

  pub bits : (a b : ℕ) → (sets k).below a b ≡ true → Within a b
  bits a b h = eqb-true (bit_and a b) a (and_parts _ _ h).0

  pub upper : (a b : ℕ) → (sets k).below a b ≡ true → b < 2 ^ k
  upper a b h = ltb-true b (2 ^ k) (and_parts _ _ h).1

  pub sets_order : k ≤ 16 → Ordered (sets k)
  sets_order most = record {
    some = pow_pos k;
    most = pow_mono most;
    levels = λ a b h. (lt_of_le_of_lt (within_le a b (bits a b h)) (upper a b h), upper a b h);
    reflexive = λ a h. to a a (and_self a) h;
    antisymmetric = λ a b h j. within_antisym a b (bits a b h) (bits b a j);
    transitive = λ a b c h j. to a c (within_trans a b c (bits a b h) (bits b c j)) (upper b c j);
  }

  pub sets_join : (a b : ℕ) → a < 2 ^ k → b < 2 ^ k → LeastAbove (sets k) a b (bit_or a b)
  sets_join a b ha hb = record {
    left = to a (bit_or a b) (or_left a b) (or_lt k a b ha hb);
    right = to b (bit_or a b) (or_right a b) (or_lt k a b ha hb);
    least = λ t h j. to (bit_or a b) t (or_least a b t (bits a t h) (bits b t j)) (upper a t h);
  }

  pub sets_meet : (a b : ℕ) → a < 2 ^ k → b < 2 ^ k → GreatestBelow (sets k) a b (bit_and a b)
  sets_meet a b ha hb = record {
    left = to (bit_and a b) a (and_left a b) ha;
    right = to (bit_and a b) b (and_right a b) hb;
    greatest = λ t h j. to t (bit_and a b) (and_most a b t (bits t a h) (bits t b j)) (lt_of_le_of_lt (and_le_l a b) ha);
  }

  pub sets_joins : (a b : ℕ) → a < 2 ^ k → b < 2 ^ k → Joins (sets k) a b (bit_or a b)
  sets_joins a b ha hb = record { between = sets_join a b; otherwise = λ no. absurd (no ha hb) }

  pub sets_meets : (a b : ℕ) → a < 2 ^ k → b < 2 ^ k → Meets (sets k) a b (bit_and a b)
  sets_meets a b ha hb = record { between = sets_meet a b; otherwise = λ no. absurd (no ha hb) }

  pub sets_highest : Highest (sets k) (2 ^ k - 1)
  sets_highest = record {
    level = ones_lt k;
    over = λ t h. to t (2 ^ k - 1) (and_mask t k ∙ mod-eq_of_lt h) (ones_lt k);
  }

  pub sets_lowest : Lowest (sets k) 0
  sets_lowest = record { level = pow_pos k; under = λ t h. to 0 t refl h }

  pub sets_laws : k ≤ 16 → Laws (sets k)
  sets_laws most = record {
    order = sets_order most;
    joins = λ a b h j. (bit_or a b, sets_join a b h j);
    meets = λ a b h j. (bit_and a b, sets_meet a b h j);
    lowest = (0, sets_lowest);
    highest = (2 ^ k - 1, sets_highest);
  }

  pub subset : (a b : ℕ) → Decides ((sets k).below a b) (Subset k a b)
  subset a b = (
    λ h.
        record {
          left = lt_of_le_of_lt (within_le a b (bits a b h)) (upper a b h);
          right = upper a b h;
          owners = within_owners a b (bits a b h);
        },
    λ s. to a b (owners_within a b s.owners) s.right,
  )
