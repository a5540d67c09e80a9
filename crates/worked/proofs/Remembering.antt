-- A register that is its own selector, assigned under a secret port.
use Rattle.std.proofs.Common.{◌≡◌, ℕ, zero, suc, ◌^◌, ◌<◌, true, ltb, [], ◌∷◌, sym, refl, ap, ◌∙◌, subst, inl, arith, lit<, lit≤}
use Rattle.std.proofs.lemmas.Bool.{ltb-true, true≢false, false≢true}
use Rattle.lattice.specs.Meaning.{Below, Joined}
use Rattle.language.specs.Syntax.{Cmd, constant, variable, looked_up, var, entry}
use Rattle.language.specs.Machine.{inside, held}
use Rattle.language.specs.Form.{Every, Selects, Formed}
use Rattle.language.specs.Typing.{Fits, Allowed, Flows, Stays, Reaches, TableLevels, LabelLevel, Anything, Typed}
use Rattle.language.specs.Offences.{Breaks14}
use Rattle.language.specs.Leaks.{two}
use Rattle.language.proofs.Leaks.{fixed≢looked_up, register≢port, from_secret}
use Rattle.worked.specs.Designs.{table_B, remembering, in_one_branch, in_both_branches}
use Rattle.worked.proofs.Values.{small_entry, first_is}

two_inside : (k : ℕ) → ltb (suc (suc k)) 2 ≡ true → ⊥
two_inside k h = let p = ltb-true (suc (suc k)) 2 h in omega arith

module _ (block : Cmd) where
  resets : (v : ℕ) → (var (remembering block) v).reset < 2 ^ (var (remembering block) v).width
  resets zero = lit< tt
  resets (suc zero) = lit< tt
  resets (suc (suc k)) = lit< tt

  settling : (v : ℕ) → inside (remembering block) v ≡ true → held (remembering block) v ≡ true
  settling zero h = refl
  settling (suc zero) h = refl
  settling (suc (suc k)) h = absurd (two_inside k h)

  selectors : (v t s : ℕ) → (var (remembering block) v).label ≡ looked_up t s → Selects (remembering block) v s
  selectors zero t s e = absurd (fixed≢looked_up 1 t s e)
  selectors (suc zero) t s e =
      let p : 1 ≡ s = cc in
      subst (Selects (remembering block) 1) p
      (record { names = refl; narrow = lit≤ tt; own = inl refl; of_port = λ h. absurd (register≢port h); of_register = λ h. refl })
  selectors (suc (suc k)) t s e = absurd (fixed≢looked_up 0 t s e)

  entries : (t : ℕ) → TableLevels two (remembering block) t
  entries zero i = small_entry table_B refl i
  entries (suc t) i = lit< tt

  labels : (v : ℕ) → LabelLevel two (remembering block) v
  labels zero l e = let p : 1 ≡ l = cc in omega arith
  labels (suc zero) l e = absurd (fixed≢looked_up l 0 1 (sym e))
  labels (suc (suc k)) l e = let p : 0 ≡ l = cc in omega arith

  reaches : (v : ℕ) → Reaches two (remembering block) v
  reaches zero t s l e f = absurd (fixed≢looked_up 1 t s e)
  reaches (suc zero) t s l e f = let p : 1 ≡ s = cc in absurd (fixed≢looked_up l 0 1 (sym (ap (λ k. (var (remembering block) k).label) p ∙ f)))
  reaches (suc (suc k)) t s l e f = absurd (fixed≢looked_up 0 t s e)

  -- an assignment of 1 under the secret port alone: with 1 the register is secret too
  secret_one : (x : ℕ) → x ≡ 1 → (j : ℕ) → Joined two (1 ∷ []) j → Below two j (entry (remembering block) 0 x)
  secret_one x p j is = subst (λ z. Below two j (entry (remembering block) 0 z)) (sym p) (from_secret j is)

-- ---- one branch

pub one_formed : Formed (remembering in_one_branch)
one_formed = record {
  resets = resets in_one_branch;
  settling = settling in_one_branch;
  clocking = (
    (
      record { sized = refl; wide = refl; reads = (refl, tt) },
      record { source = record { sized = lit< tt; wide = refl; reads = tt }; target = refl },
      tt,
    ),
    tt,
  );
  apart = ((tt, tt), tt, λ v h. refl);
  selectors = selectors in_one_branch;
}

pub one_flows : Every Anything (Flows two (remembering in_one_branch)) (in_one_branch ∷ [])
one_flows = ((tt, λ ρ fits allowed. secret_one in_one_branch, tt), tt)

secret_fits : Fits (remembering in_one_branch) (first_is 1)
secret_fits zero = lit< tt
secret_fits (suc zero) = lit< tt
secret_fits (suc (suc k)) = lit< tt

secret_allowed : Allowed (remembering in_one_branch) ((variable 1 0 0, true) ∷ []) (first_is 1)
secret_allowed zero h k = refl
secret_allowed (suc zero) h k = refl
secret_allowed (suc (suc v)) h k = absurd (two_inside v h)

does_not_stay : Stays two (remembering in_one_branch) ((variable 1 0 0, true) ∷ []) 1 (constant 1 1) → ⊥
does_not_stay stays =
    false≢true (stays 0 refl refl (first_is 1) secret_fits secret_allowed 1
    (record { level = lit< tt; above = (refl, tt); least = λ t h each. each.0 }))

pub one_breaks : Breaks14 two (remembering in_one_branch) 0
one_breaks = record { here = inl (inl (refl, does_not_stay)); lower = ((λ h. absurd (omega arith), tt), tt) }

-- ---- both branches

pub both_formed : Formed (remembering in_both_branches)
both_formed = record {
  resets = resets in_both_branches;
  settling = settling in_both_branches;
  clocking = (
    (
      record { sized = refl; wide = refl; reads = (refl, tt) },
      record { source = record { sized = lit< tt; wide = refl; reads = tt }; target = refl },
      record { source = record { sized = lit< tt; wide = refl; reads = tt }; target = refl },
    ),
    tt,
  );
  apart = ((tt, tt), tt, λ v h. refl);
  selectors = selectors in_both_branches;
}

pub both_typed : Typed two (remembering in_both_branches)
both_typed = record {
  levelled = record { entries = entries in_both_branches; labels = labels in_both_branches };
  reaches = reaches in_both_branches;
  settled_flows = tt;
  clocked_flows = ((tt, λ ρ fits allowed. secret_one in_both_branches, λ ρ fits allowed. secret_one in_both_branches), tt);
  stays = ((tt, λ t own off. absurd (true≢false off), λ t own off. absurd (true≢false off)), tt);
}
