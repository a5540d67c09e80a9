-- What is struck from a list, and what stays.
use Rattle.std.proofs.Common.{◌≡◌, ℕ, Bool, true, false, cond, ◌&&◌, List, ◌∷◌, is_ok, refl, ap, ◌∙◌, ⊎_elim}
use Rattle.std.proofs.lemmas.Bool.{both_ways, and_right, and_from, and_cases}
use Rattle.lattice.specs.Meaning.{Meaning}
use Rattle.language.specs.Syntax.{Design}
use Rattle.language.specs.Machine.{Valuation, put, clear, level, Call, drive, accepts, step}
use Rattle.language.specs.Guarantee.{stays, strike, Striking}

pub striking : Striking
striking m d w σ cs = record {
  reads = λ k a v. refl;
  refused = λ v x f e. ap (λ a. after_drive v x (a && m.below (level d σ v) w) (cond a (clear d σ (put σ v x)) σ)) (ap is_ok e);
  hidden = λ v x h. ap (λ b. after_drive v x b (step d σ (drive v x))) (ap (λ b. accepts d v x && b) h ∙ and_right (accepts d v x) false refl);
  seen = λ v x e h. ap (λ b. after_drive v x b (step d σ (drive v x))) (and_from (accepts d v x) (m.below (level d σ v) w) (ap is_ok e) h);
  clocks = refl;
  resets = refl;
}
  where
    -- the struck list, where the drive stays or not and leaves τ held
    after_drive : ℕ → ℕ → Bool → Valuation → List Call
    after_drive v x b τ = cond b (drive v x ∷ strike m d w τ cs) (strike m d w τ cs)

-- a drive that was accepted and is struck could not be seen
pub struck_hidden : (m : Meaning) (d : Design) (w : ℕ) (σ : Valuation) (v x : ℕ) → accepts d v x ≡ true → stays m d w σ (drive v x) ≡ false → m.below (level d σ v) w ≡ false
struck_hidden m d w σ v x h k = ⊎_elim (λ q. absurd (both_ways (accepts d v x) q h)) (λ q. q) (and_cases (accepts d v x) (m.below (level d σ v) w) k)
