-- What a watcher can learn from a session, and what another can confirm.
use Rattle.std.specs.Prelude.{◌≡◌, ℕ, Bool, true, false, cond, ◌&&◌, ◌≢◌, List, [], ◌∷◌, Ok, Err}
use Rattle.refusal.specs.declared.Refusal.{Refusal}
use Rattle.refusal.specs.declared.Refusal.TheVariants.{NoValue}
use Rattle.lattice.specs.Meaning.{Meaning, Below, Laws}
use Rattle.language.specs.Syntax.{Design}
use Rattle.language.specs.Machine.{Valuation, level, Call, drive, clock, reset, read, driven, accepts, step, run, opening, answer}
use Rattle.language.specs.Form.{Formed}
use Rattle.language.specs.Typing.{Typed}

-- does a call stay in the list of a watcher at w? Reads go, and so do drives that were refused,
-- or whose port had just before a level not at or below the watcher's.
abbrev pub stays : Meaning → Design → ℕ → Valuation → Call → Bool
stays m d w σ (drive v x) = accepts d v x && m.below (level d σ v) w
stays m d w σ clock = true
stays m d w σ reset = true
stays m d w σ (read k a v) = false

-- the list with the other calls struck; the machine runs on the whole list, struck calls too
abbrev pub strike : Meaning → Design → ℕ → Valuation → List Call → List Call
strike m d w σ [] = []
strike m d w σ (c ∷ cs) = cond (stays m d w σ c) (c ∷ strike m d w (step d σ c) cs) (strike m d w (step d σ c) cs)

-- reads and refused drives leave no trace in a struck list, a drive that the watcher may not see goes, and all else stays
pub record Strikes (m : Meaning) (d : Design) (w : ℕ) (σ : Valuation) (cs : List Call) : Type 0 where
  pub reads : (k : Meaning) (a v : ℕ) → strike m d w σ (read k a v ∷ cs) ≡ strike m d w σ cs
  pub refused : (v x : ℕ) (f : Refusal) → driven d v x ≡ Err f → strike m d w σ (drive v x ∷ cs) ≡ strike m d w σ cs
  pub hidden : (v x : ℕ) → m.below (level d σ v) w ≡ false → strike m d w σ (drive v x ∷ cs) ≡ strike m d w (step d σ (drive v x)) cs
  pub seen : (v x : ℕ) → driven d v x ≡ Ok tt → Below m (level d σ v) w
      → strike m d w σ (drive v x ∷ cs) ≡ drive v x ∷ strike m d w (step d σ (drive v x)) cs
  pub clocks : strike m d w σ (clock ∷ cs) ≡ clock ∷ strike m d w (step d σ clock) cs
  pub resets : strike m d w σ (reset ∷ cs) ≡ reset ∷ strike m d w (step d σ reset) cs

abbrev pub Striking : Type 0
Striking = (m : Meaning) (d : Design) (w : ℕ) (σ : Valuation) (cs : List Call) → Strikes m d w σ cs

-- what is held after a session's list
abbrev pub final : Design → List Call → Valuation
final d cs = run d (opening d) cs

pub record Secure (m : Meaning) (d : Design) : Type 0 where
  -- lists that are equal once struck leave a watcher the same answers
  pub bounded : (w : ℕ) (cs ds : List Call) → strike m d w (opening d) cs ≡ strike m d w (opening d) ds
      → (v : ℕ) → answer m d (final d cs) w v ≡ answer m d (final d ds) w v
  -- what one watcher is told, each watcher above is told, under any lattice and whatever is held
  pub confirmed : (k : Meaning) → Laws k → (σ : Valuation) (w higher v x l : ℕ) → Below k w higher
      → answer k d σ w v ≡ Ok (x, l) → answer k d σ higher v ≡ Ok (x, l)

-- a design that keeps form and typing under a lattice is secure under it
abbrev pub Noninterference : Type 0
Noninterference = (m : Meaning) (d : Design) → Laws m → Formed d → Typed m d → Secure m d

-- no read of a formed design finds a wire without a value
abbrev pub WiresHaveValues : Type 0
WiresHaveValues = (d : Design) → Formed d → (m : Meaning) (σ : Valuation) (w v : ℕ) → answer m d σ w v ≢ Err (NoValue v)
