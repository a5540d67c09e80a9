-- When a call makes something, and when it refuses.
use Rattle.std.specs.Prelude.{◌≡◌, Ok, Err, Result}
use Rattle.refusal.specs.declared.Refusal.{Refusal}

-- made, as Q tells, exactly where P holds; elsewhere refused with f
abbrev pub MadeIf : {T : Type 0} → Result T Refusal → Type 0 → (T → Type 0) → Refusal → Type 0
MadeIf (Ok x) P Q f = P × Q x
MadeIf (Err e) P Q f = (P → ⊥) × (e ≡ f)
