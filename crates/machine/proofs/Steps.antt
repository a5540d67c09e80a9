-- What the calls leave, for every number.
use Rattle.std.proofs.Common.{◌≡◌, ℕ, ◌^◌, ◌<◌, ◌≤◌, cond, ltb, is_ok, Ok, refl, ap, ◌∙◌, ⊎_elim, true≢false, arith}
use Rattle.std.proofs.lemmas.Bool.{cases_lt, cond_both}
use Rattle.refusal.specs.declared.Section.TheVariants.{Variables}
use Rattle.refusal.specs.declared.Refusal.TheVariants.{NotAPort, ValueTooWide}
use Rattle.language.specs.Syntax.{Design, together}
use Rattle.language.specs.Machine.{Valuation, put, after, values, cleared, clear, is_port, require, opening, opening_by, driven, step, drive, clock}
use Rattle.records.specs.Layouts.{File, count_in}
use Rattle.records.specs.Trees.{design_of}
use Rattle.records.proofs.Designs.{var_past}
use Rattle.variables.specs.declared.values.Values.{Values}
use Rattle.variables.specs.Variables.{value_of, Holds}
use Rattle.variables.proofs.Laws.{value_past, value_all, set_all}
use Rattle.machine.proofs.Targets.{Low}
use Rattle.machine.proofs.Turns.{after_past}

-- a number that names no variable holds 0 at the opening
pub opening_past : (f : File) (v : ℕ) → 128 ≤ v → opening (design_of f) v ≡ 0
opening_past f v ge =
    let le : count_in f Variables ≤ v = omega arith in
    ap (λ x. opening_by x.kind x.reset) (var_past f v le)

-- nor does it where values take the place of others
pub clear_past : (d : Design) (σ : Valuation) (h : Values) (v : ℕ) → 128 ≤ v → clear d σ (value_of h) v ≡ 0
clear_past d σ h v ge = cond_both (cleared d σ (value_of h) v) 0 (value_of h v) (λ x. x ≡ 0) (λ e. refl) (λ e. value_past h v ge)

pub clock_is : (d : Design) (xs before next ys : Values) → Low (together d.clocked) → ((v : ℕ) → value_of before v ≡ values d (value_of xs) v) → Holds next (after (value_of before) (value_of xs) (together d.clocked)) → ((v : ℕ) → value_of ys v ≡ clear d (value_of xs) (value_of next) v) → (v : ℕ) → value_of ys v ≡ step d (value_of xs) clock v
clock_is d xs before next ys low settled run cleared v =
    let all = value_all next _ (after_past (value_of before) xs (together d.clocked) low) run in
    cleared v ∙ (λ i. clear d (value_of xs) (λ u. all u i) v) ∙ (λ i. clear d (value_of xs) (after (λ u. settled u i) (value_of xs) (together d.clocked)) v)

-- what a drive that is accepted names is a variable
pub driven_low : (f : File) (v x : ℕ) → Ok tt ≡ driven (design_of f) v x → v < 128
driven_low f v x e =
    ⊎_elim
    (λ lt. lt)
    (λ ge. let le : count_in f Variables ≤ v = omega arith in absurd (true≢false (ap is_ok (e ∙ ap (λ y. require (is_port y.kind) (NotAPort v) (require (ltb x (2 ^ y.width)) (ValueTooWide v) (Ok tt))) (var_past f v le)))))
    (cases_lt v 128)

pub drive_is : (d : Design) (xs next ys : Values) (v x : ℕ) → v < 128 → Ok tt ≡ driven d v x → Holds next (put (value_of xs) v x) → ((u : ℕ) → value_of ys u ≡ clear d (value_of xs) (value_of next) u) → (u : ℕ) → value_of ys u ≡ step d (value_of xs) (drive v x) u
drive_is d xs next ys v x low ok h cleared u =
    cleared u ∙ (λ i. clear d (value_of xs) (λ w. set_all xs next v x low h w i) u) ∙ ap (λ t. cond t (clear d (value_of xs) (put (value_of xs) v x)) (value_of xs) u) (ap is_ok ok)
