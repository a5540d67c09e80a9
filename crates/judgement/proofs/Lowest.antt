-- The lower of two answers is the lowest of a whole that has the two parts.
use Rattle.std.proofs.Common.{◌≡◌, ℕ, ◌+◌, ◌<◌, ◌≤◌, min, Bool, true, false, not, ◌⊎◌, List, [], ◌∷◌, Some, None, Option, sym, refl, ap, subst, inl, inr, ⊎_elim, arith}
use Rattle.std.proofs.lemmas.Bool.{cases_lt}
use Rattle.refusal.specs.declared.Section.TheVariants.{Blocks}
use Rattle.lattice.specs.Meaning.{Meaning, All}
use Rattle.language.specs.Syntax.{Expr, Cmd, Design, idle, seq, choice, assign}
use Rattle.language.specs.Form.{Way, Each}
use Rattle.language.specs.Typing.{Anything}
use Rattle.language.specs.Finite.{Test14}
use Rattle.language.specs.Offences.{EachAt, SomeIn}
use Rattle.records.specs.Layouts.{File, count_in}
use Rattle.records.specs.Trees.{body_at, settled_at, design_of}
use Rattle.records.proofs.Designs.{clocked_is}
use Rattle.judgement.specs.Findings.{lower_of, Least, LowestOf, Off14, Low14, Stayed, StayedIn, StayedTo, StayedAll}
use Rattle.judgement.proofs.Bodies.{all_bodies, some_bodies}

-- a part: where it is fine nothing lower offends, and what is lower than k is lower than all above
record Part (Fine : Type 0) (Low : ℕ → Type 0) : Type 0 where
  all : Fine → (k : ℕ) → Low k
  down : (k j : ℕ) → j ≤ k → Low k → Low j

module _ {FA FB FC : Type 0} {HA HB HC LA LB LC : ℕ → Type 0} (a : Part FA LA) (b : Part FB LB)
    (fine : FA → FB → FC) (here : (k : ℕ) → HA k ⊎ HB k → HC k) (low : (k : ℕ) → LA k → LB k → LC k) where
  two : (ra rb : Option ℕ) → LowestOf FA HA LA ra → LowestOf FB HB LB rb → LowestOf FC HC LC (lower_of ra rb)
  two None None h k = fine h k
  two None (Some y) h k = record { here = here y (inr k.here); lower = low y (a.all h y) k.lower }
  two (Some x) None h k = record { here = here x (inl h.here); lower = low x h.lower (b.all k x) }
  two (Some x) (Some y) h k =
      ⊎_elim
      (λ (lt : x < y). let e : min x y ≡ x = omega arith in
      subst (Least HC LC) (sym e) (record { here = here x (inl h.here); lower = low x h.lower (b.down y x (omega arith) k.lower) }))
      (λ (le : y ≤ x). let e : min x y ≡ y = omega arith in
      subst (Least HC LC) (sym e) (record { here = here y (inr k.here); lower = low y (a.down x y le h.lower) k.lower }))
      (cases_lt x y)

module _ (m : Meaning) (d : Design) where
  all_low : (path : List Way) (c : Cmd) → Each Anything (Test14 m d) path c → (k : ℕ) → EachAt (Low14 m d k) path c
  all_low path idle h k = tt
  all_low path (seq a b) h k = (all_low path a h.0 k, all_low path b h.1 k)
  all_low path (choice e a b) h k = (all_low ((e, true) ∷ path) a h.1 k, all_low ((e, false) ∷ path) b h.2 k)
  all_low path (assign u e n) h k = λ lt. h

  lower_low : (path : List Way) (c : Cmd) (k j : ℕ) → j ≤ k → EachAt (Low14 m d k) path c → EachAt (Low14 m d j) path c
  lower_low path idle k j le h = tt
  lower_low path (seq a b) k j le h = (lower_low path a k j le h.0, lower_low path b k j le h.1)
  lower_low path (choice e a b) k j le h = (lower_low ((e, true) ∷ path) a k j le h.0, lower_low ((e, false) ∷ path) b k j le h.1)
  lower_low path (assign u e n) k j le h = λ lt. h (omega arith)

  command : (path : List Way) (c : Cmd) → Part (Each Anything (Test14 m d) path c) (λ k. EachAt (Low14 m d k) path c)
  command path c = record { all = all_low path c; down = lower_low path c }

  pub stayed_seq : (ra rb : Option ℕ) (path : List Way) (a b : Cmd) → Stayed m d path a ra → Stayed m d path b rb → Stayed m d path (seq a b) (lower_of ra rb)
  stayed_seq ra rb path a b = two (command path a) (command path b) (λ h k. (h, k)) (λ k h. h) (λ k h i. (h, i)) ra rb

  pub stayed_choice : (ra rb : Option ℕ) (path : List Way) (e : Expr) (a b : Cmd)
      → Stayed m d ((e, true) ∷ path) a ra → Stayed m d ((e, false) ∷ path) b rb → Stayed m d path (choice e a b) (lower_of ra rb)
  stayed_choice ra rb path e a b = two (command ((e, true) ∷ path) a) (command ((e, false) ∷ path) b) (λ h k. (tt, h, k)) (λ k h. h) (λ k h i. (h, i)) ra rb

-- ---- block by block

pub not_true : (b : Bool) → not b ≡ true → b ≡ false
not_true true h = sym h
not_true false h = refl

module _ (m : Meaning) (f : File) where
  pub stayed_clocked : (b : ℕ) (r : Option ℕ) → settled_at f b ≡ false → Stayed m (design_of f) [] (body_at f b) r → StayedIn m f b r
  stayed_clocked b None off h = λ e. h
  stayed_clocked b (Some k) off h = record { here = (off, h.here); lower = λ e. h.lower }

  abbrev Fine : ℕ → Type 0
  Fine b = Each Anything (Test14 m (design_of f)) [] (body_at f b)

  abbrev Low : ℕ → ℕ → Type 0
  Low b k = EachAt (Low14 m (design_of f) k) [] (body_at f b)

  one_block : (b : ℕ) → Part (settled_at f b ≡ false → Fine b) (λ k. settled_at f b ≡ false → Low b k)
  one_block b = record { all = λ h k e. all_low m (design_of f) [] (body_at f b) (h e) k; down = λ k j le h e. lower_low m (design_of f) [] (body_at f b) k j le (h e) }

  some_blocks : (n : ℕ) → Part ((b : ℕ) → b < n → settled_at f b ≡ false → Fine b) (λ k. (b : ℕ) → b < n → settled_at f b ≡ false → Low b k)
  some_blocks n = record { all = λ h k b i. (one_block b).all (h b i) k; down = λ k j le h b i. (one_block b).down k j le (h b i) }

  -- one block more
  each_more : (P : ℕ → Type 0) (n : ℕ) → ((b : ℕ) → b < n → P b) → P n → (b : ℕ) → b < n + 1 → P b
  each_more P n h k b i = ⊎_elim (λ (lt : b < n). h b lt) (λ (le : n ≤ b). let e : n ≡ b = omega arith in subst P e k) (cases_lt b n)

  pub stayed_more : (n : ℕ) (ra rb : Option ℕ) → StayedTo m f n ra → StayedIn m f n rb → StayedTo m f (n + 1) (lower_of ra rb)
  stayed_more n =
      two (some_blocks n) (one_block n)
      (each_more (λ b. settled_at f b ≡ false → Fine b) n)
      (λ k. ⊎_elim (λ h. (h.0, omega (arith, h.1), h.2, h.3)) (λ h. (n, omega arith, h.0, h.1)))
      (λ k. each_more (λ b. settled_at f b ≡ false → Low b k) n)

  pub stayed_whole : (n : ℕ) (r : Option ℕ) → n ≡ count_in f Blocks → StayedTo m f n r → StayedAll m (design_of f) r
  stayed_whole n None is h =
      subst (All (Each Anything (Test14 m (design_of f)) [])) (sym (clocked_is f))
      (all_bodies f (λ b. not (settled_at f b)) (Each Anything (Test14 m (design_of f)) []) 0 (count_in f Blocks) (λ b i j e. h b (omega (arith, is, j)) (not_true (settled_at f b) e)))
  stayed_whole n (Some k) is h = record {
    here = subst (SomeIn (Off14 m (design_of f) k)) (sym (clocked_is f))
        (some_bodies f (λ b. not (settled_at f b)) (Off14 m (design_of f) k) 0 (count_in f Blocks) h.here.0 (omega arith) (omega (arith, is, h.here.1)) (ap not h.here.2) h.here.3);
    lower = subst (All (EachAt (Low14 m (design_of f) k) [])) (sym (clocked_is f))
        (all_bodies f (λ b. not (settled_at f b)) (EachAt (Low14 m (design_of f) k) []) 0 (count_in f Blocks) (λ b i j e. h.lower b (omega (arith, is, j)) (not_true (settled_at f b) e)));
  }
