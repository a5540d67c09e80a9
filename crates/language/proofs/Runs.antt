-- Whole runs: the theorem.
use Rattle.std.proofs.Common.{◌≡◌, ℕ, ◌^◌, ◌<◌, Bool, true, false, cond, ◌||◌, ltb, List, [], ◌∷◌, is_ok, Ok, Err, Result, sym, refl, ap, ◌∙◌, subst, ap₂, arith}
use Rattle.std.proofs.lemmas.Bool.{true≢false, both_ways, ltb-true, lt-ltb}
use Rattle.refusal.specs.declared.Refusal.{Refusal}
use Rattle.refusal.specs.declared.Refusal.TheVariants.{NotAPort, ValueTooWide, NotAVariable, NotAWatcher, NoValue, Hidden}
use Rattle.lattice.specs.Meaning.{Meaning, Below, Laws}
use Rattle.language.specs.Syntax.{Design, Kind, port, register, wire, var}
use Rattle.language.specs.Machine.{Valuation, put, after, values, level, is_port, clear, opening, Call, drive, clock, reset, read, require, accepts, step, run, gets, answer, inside, held}
use Rattle.language.specs.Form.{Formed}
use Rattle.language.specs.Typing.{Fits, Typed}
use Rattle.language.specs.Guarantee.{stays, strike, final, Noninterference, WiresHaveValues}
use Rattle.language.proofs.Levels.{See}
use Rattle.language.proofs.Settle.{after_fits, all_get}
use Rattle.language.proofs.Struck.{struck_hidden}
use Rattle.language.proofs.Steps.{ticks, put_fits, clear_fits, opening_fits, values_keep, values_see, clock_sound, clock_see, drive_see, hidden_from, hidden_to}

-- two states that show a watcher at w the same
abbrev pub Alike : Meaning → Design → ℕ → Valuation → Valuation → Type 0
Alike m d w σ σ' = See m d w (held d) σ σ' × See m d w (held d) σ' σ

see_trans : (m : Meaning) (d : Design) (w : ℕ) (known : ℕ → Bool) (a b c : Valuation) → See m d w known a b → See m d w known b c → See m d w known a c
see_trans m d w known a b c f g v h seen =
    let p = f v h seen in
    let q = g v h (subst (λ l. Below m l w) (sym p.1) seen) in
    (q.0 ∙ p.0, q.1 ∙ p.1)

-- ---- refusals

require_met : {A : Type 0} (b : Bool) (f : Refusal) {a : Result A Refusal} → b ≡ true → require b f a ≡ a
require_met b f {a} p = ap (λ t. require t f a) p

require_same : {A : Type 0} (b : Bool) (f : Refusal) {a a' : Result A Refusal} → (b ≡ true → a ≡ a') → require b f a ≡ require b f a'
require_same true f h = h refl
require_same false f h = refl

ok≢err : {A : Type 0} (x : A) (f : Refusal) → Err f ≡ Ok x → ⊥
ok≢err x f p = true≢false (sym (ap is_ok p))

met : {A : Type 0} (b : Bool) (f : Refusal) {a : Result A Refusal} {x : A} → require b f a ≡ Ok x → (b ≡ true) × (a ≡ Ok x)
met true f p = (refl, p)
met false f {a} {x} p = absurd (ok≢err x f p)

ok_parts : (b : Bool) (f : Refusal) (a : Result (Unit {0}) Refusal) → is_ok (require b f a) ≡ true → (b ≡ true) × (is_ok a ≡ true)
ok_parts true f a p = (refl, p)
ok_parts false f a p = absurd (true≢false (sym p))

is_a_port : (k : Kind) → is_port k ≡ true → k ≡ port
is_a_port port h = refl
is_a_port register h = absurd (true≢false (sym h))
is_a_port wire h = absurd (true≢false (sym h))

-- what an accepted drive names
accepted : (d : Design) (u x : ℕ) → accepts d u x ≡ true → ((var d u).kind ≡ port) × (x < 2 ^ (var d u).width)
accepted d u x h =
    let p = ok_parts (is_port (var d u).kind) (NotAPort u) (require (ltb x (2 ^ (var d u).width)) (ValueTooWide u) (Ok tt)) h in
    let q = ok_parts (ltb x (2 ^ (var d u).width)) (ValueTooWide u) (Ok tt) p.1 in
    (is_a_port (var d u).kind p.0, ltb-true x (2 ^ (var d u).width) q.0)

module _ (m : Meaning) (d : Design) (laws : Laws m) (formed : Formed d) (typed : Typed m d) (w : ℕ) where
  alike_trans : (a b c : Valuation) → Alike m d w a b → Alike m d w b c → Alike m d w a c
  alike_trans a b c f g = (see_trans m d w (held d) a b c f.0 g.0, see_trans m d w (held d) c b a g.1 f.1)

  step_fits : (σ : Valuation) (c : Call) → Fits d σ → Fits d (step d σ c)
  step_fits σ (drive u x) fits = go (accepts d u x) refl
    where
      go : (b : Bool) → accepts d u x ≡ b → Fits d (cond b (clear d σ (put σ u x)) σ)
      go true h = clear_fits d σ (put σ u x) (put_fits d σ u x fits (accepted d u x h).1)
      go false h = fits
  step_fits σ clock fits =
      clear_fits d σ (after (values d σ) σ (ticks d))
      (after_fits d (inside d) (values d σ) σ (values_keep d formed σ fits).fits fits (ticks d) formed.apart (clock_sound m d laws formed typed w))
  step_fits σ reset fits = opening_fits d formed
  step_fits σ (read k a v) fits = fits

  -- the same call on both sides
  step_alike : (c : Call) (σ σ' : Valuation) → Fits d σ → Fits d σ' → Alike m d w σ σ' → Alike m d w (step d σ c) (step d σ' c)
  step_alike (drive u x) σ σ' fits fits' alike = go (accepts d u x) refl
    where
      go : (b : Bool) → accepts d u x ≡ b → Alike m d w (cond b (clear d σ (put σ u x)) σ) (cond b (clear d σ' (put σ' u x)) σ')
      go true h =
          let small = (accepted d u x h).1 in
          (drive_see m d laws formed typed w u x small σ σ' fits alike.0, drive_see m d laws formed typed w u x small σ' σ fits' alike.1)
      go false h = alike
  step_alike clock σ σ' fits fits' alike =
      (clock_see m d laws formed typed w σ σ' fits fits' alike.0 alike.1, clock_see m d laws formed typed w σ' σ fits' fits alike.1 alike.0)
  step_alike reset σ σ' fits fits' alike = (λ v h seen. (refl, refl), λ v h seen. (refl, refl))
  step_alike (read k a v) σ σ' fits fits' alike = alike

  -- a struck call on one side
  struck_alike : (c : Call) (σ : Valuation) → Fits d σ → stays m d w σ c ≡ false → Alike m d w (step d σ c) σ
  struck_alike (drive u x) σ fits h = go (accepts d u x) refl
    where
      go : (b : Bool) → accepts d u x ≡ b → Alike m d w (cond b (clear d σ (put σ u x)) σ) σ
      go true p =
          let k = accepted d u x p in
          let hidden = struck_hidden m d w σ u x p h in
          (hidden_to m d laws formed typed w u x k.1 k.0 σ fits hidden, hidden_from m d laws formed typed w u x k.1 k.0 σ fits hidden)
      go false p = (λ v h seen. (refl, refl), λ v h seen. (refl, refl))
  struck_alike clock σ fits h = absurd (true≢false h)
  struck_alike reset σ fits h = absurd (true≢false h)
  struck_alike (read k a v) σ fits h = (λ v h seen. (refl, refl), λ v h seen. (refl, refl))

  -- the whole list leaves what the struck list leaves
  run_alike : (cs : List Call) (σ σ' : Valuation) → Fits d σ → Fits d σ' → Alike m d w σ σ' → Alike m d w (run d σ cs) (run d σ' (strike m d w σ cs))
  run_alike [] σ σ' fits fits' alike = alike
  run_alike (c ∷ cs) σ σ' fits fits' alike = go (run_alike cs (step d σ c)) (stays m d w σ c) refl
    where
      rest : List Call
      rest = strike m d w (step d σ c) cs

      go : ((σ'' : Valuation) → Fits d (step d σ c) → Fits d σ'' → Alike m d w (step d σ c) σ'' → Alike m d w (run d (step d σ c) cs) (run d σ'' rest))
          → (b : Bool) → stays m d w σ c ≡ b → Alike m d w (run d (step d σ c) cs) (run d σ' (cond b (c ∷ rest) rest))
      go ih true h = ih (step d σ' c) (step_fits σ c fits) (step_fits σ' c fits') (step_alike c σ σ' fits fits' alike)
      go ih false h = ih σ' (step_fits σ c fits) fits' (alike_trans (step d σ c) σ σ' (struck_alike c σ fits h) alike)

  runs_fit : (cs : List Call) (σ : Valuation) → Fits d σ → Fits d (run d σ cs)
  runs_fit [] σ fits = fits
  runs_fit (c ∷ cs) σ fits = runs_fit cs (step d σ c) (step_fits σ c fits)

  same_answer : (σ σ' : Valuation) → Fits d σ → Fits d σ' → Alike m d w σ σ' → (v : ℕ) → answer m d σ w v ≡ answer m d σ' w v
  same_answer σ σ' fits fits' alike v =
      require_same (inside d v) (NotAVariable v) (λ h. require_same (ltb w m.count) (NotAWatcher v) (λ g.
      require_met (held d v || gets σ d.settled v) (NoValue v) (all_get d (held d) d.settled formed.settling σ v h)
      ∙ shown (values d σ) (values d σ') (values_see m d laws formed typed w σ σ' fits alike.0 v h) (values_see m d laws formed typed w σ' σ fits' alike.1 v h)
      ∙ sym (require_met (held d v || gets σ' d.settled v) (NoValue v) (all_get d (held d) d.settled formed.settling σ' v h))))
    where
      Shows : Valuation → Valuation → Type 0
      Shows ρ ρ' = Below m (level d ρ v) w → (ρ' v ≡ ρ v) × (level d ρ' v ≡ level d ρ v)

      told : Bool → Valuation → Result (ℕ × ℕ) Refusal
      told b ρ = require b (Hidden v) (Ok (ρ v, level d ρ v))

      shown : (ρ ρ' : Valuation) → Shows ρ ρ' → Shows ρ' ρ → told (m.below (level d ρ v) w) ρ ≡ told (m.below (level d ρ' v) w) ρ'
      shown ρ ρ' f g = go (m.below (level d ρ v) w) (m.below (level d ρ' v) w) refl refl
        where
          go : (a b : Bool) → m.below (level d ρ v) w ≡ a → m.below (level d ρ' v) w ≡ b → told a ρ ≡ told b ρ'
          go true true p q = ap₂ (λ x l. Ok (x, l)) (sym (f p).0) (sym (f p).1)
          go true false p q = absurd (both_ways (m.below (level d ρ' v) w) q (ap (λ l. m.below l w) (f p).1 ∙ p))
          go false true p q = absurd (both_ways (m.below (level d ρ v) w) p (ap (λ l. m.below l w) (g q).1 ∙ q))
          go false false p q = refl

  bounded_by : (cs ds : List Call) → strike m d w (opening d) cs ≡ strike m d w (opening d) ds → Alike m d w (final d cs) (final d ds)
  bounded_by cs ds e =
      let o = opening d in
      let fits = opening_fits d formed in
      let here = run_alike cs o o fits fits (λ v h seen. (refl, refl), λ v h seen. (refl, refl)) in
      let there = run_alike ds o o fits fits (λ v h seen. (refl, refl), λ v h seen. (refl, refl)) in
      alike_trans (final d cs) (run d o (strike m d w o ds)) (final d ds) (subst (λ l. Alike m d w (final d cs) (run d o l)) e here) (there.1, there.0)

pub confirmed : (k : Meaning) (d : Design) → Laws k → (σ : Valuation) (w w' v x l : ℕ) → Below k w w'
    → answer k d σ w v ≡ Ok (x, l) → answer k d σ w' v ≡ Ok (x, l)
confirmed k d laws σ w w' v x l h p =
    let ρ = values d σ in
    let p17 = met (inside d v) (NotAVariable v) p in
    let p18 = met (ltb w k.count) (NotAWatcher v) p17.1 in
    let p19 = met (held d v || gets σ d.settled v) (NoValue v) p18.1 in
    let p20 = met (k.below (level d ρ v) w) (Hidden v) p19.1 in
    require_met (inside d v) (NotAVariable v) p17.0
    ∙ require_met (ltb w' k.count) (NotAWatcher v) (lt-ltb w' k.count (laws.order.levels w w' h).1)
    ∙ require_met (held d v || gets σ d.settled v) (NoValue v) p19.0
    ∙ require_met (k.below (level d ρ v) w') (Hidden v) (laws.order.transitive (level d ρ v) w w' p20.0 h)
    ∙ p20.1

pub noninterference : Noninterference
noninterference m d laws formed typed = record {
  bounded = λ w cs ds e v. same_answer m d laws formed typed w (final d cs) (final d ds)
      (runs_fit m d laws formed typed w cs (opening d) (opening_fits d formed)) (runs_fit m d laws formed typed w ds (opening d) (opening_fits d formed))
      (bounded_by m d laws formed typed w cs ds e) v;
  confirmed = λ k laws σ w w' v x l. confirmed k d laws σ w w' v x l;
}

-- ---- every wire has a value

past : {A : Type 0} (b : Bool) (f g : Refusal) {a : Result A Refusal} → (f ≡ g → ⊥) → require b f a ≡ Err g → (b ≡ true) × (a ≡ Err g)
past true f g n p = (refl, p)
past false f g n p = absurd (n (err_same p))
  where
    err_same : {A : Type 0} {f g : Refusal} → ◌≡◌ {A = Result A Refusal} (Err f) (Err g) → f ≡ g
    err_same p = cc

pub wires_have_values : WiresHaveValues
wires_have_values d formed m σ w v e =
    let p17 = past (inside d v) (NotAVariable v) (NoValue v) (λ q. let z : ◌≡◌ {A = ℕ} 0 1 = cc in omega arith) e in
    let p18 = past (ltb w m.count) (NotAWatcher v) (NoValue v) (λ q. let z : ◌≡◌ {A = ℕ} 0 1 = cc in omega arith) p17.1 in
    let has = all_get d (held d) d.settled formed.settling σ v p17.0 in
    let p20 = past (m.below (level d (values d σ) v) w) (Hidden v) (NoValue v) (λ q. let z : ◌≡◌ {A = ℕ} 0 1 = cc in omega arith)
    (sym (require_met (held d v || gets σ d.settled v) (NoValue v) has) ∙ p18.1) in
    ok≢err (values d σ v, level d (values d σ) v) (NoValue v) (sym p20.1)
