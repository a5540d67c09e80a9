-- 14 of one assignment.
use Rattle.std.proofs.Common.{◌≡◌, ℕ, ◌≤◌, false, List, Some, None, Option, MatchOption, sym, refl, ◌∙◌, subst, arith}
use Rattle.std.specs.Option.{option_map}
use Rattle.std.proofs.lemmas.Bool.{both_ways}
use Rattle.lattice.specs.Meaning.{Meaning}
use Rattle.language.specs.Syntax.{Expr, Design, assign, looked_up, count, var, together}
use Rattle.language.specs.Form.{Way, always}
use Rattle.language.specs.Typing.{allows}
use Rattle.language.specs.Finite.{value_of, AllUnder, among, Test14}
use Rattle.paths.specs.declared.path.Path.{Path}
use Rattle.variables.specs.Variables.{has}
use Rattle.paths.specs.Marks.{sets_of, Tracks}
use Rattle.flows.specs.declared.offences.Offence.{Offence}
use Rattle.flows.specs.Findings.{Offends}
use Rattle.flows.proofs.Alike.{same_all_under}
use Rattle.judgement.specs.Findings.{Stayed}

same_table : (t u s v : ℕ) → looked_up t u ≡ looked_up s v → t ≡ s
same_table t u s v h = cc

module _ (m : Meaning) (d : Design) (most : count d ≤ 128) (ways : List Way) (path : Path) (tracks : Tracks ways path) (u t : ℕ) (own : (var d u).label ≡ looked_up t u) (e : Expr) where
  pub stay_passes : AllUnder m d (sets_of path.values) (has path.variables) (value_of t u) → Test14 m d ways u e
  stay_passes h s its off =
      subst (λ z. AllUnder m d (allows ways) (among ways) (value_of z u)) (same_table t u s u (sym own ∙ its))
      (same_all_under m d most (sets_of path.values) (allows ways) tracks.values (has path.variables) (among ways) tracks.variables (value_of t u) h)

  pub stay_breaks : (o : Offence) → always (together d.clocked) u ≡ false → Offends m d (sets_of path.values) (has path.variables) (value_of t u) o → Test14 m d ways u e → ⊥
  stay_breaks f off o test =
      let all : AllUnder m d (sets_of path.values) (has path.variables) (value_of t u) =
      same_all_under m d most (allows ways) (sets_of path.values) (λ v x h k. sym (tracks.values v x h k)) (among ways) (has path.variables) (λ v h. sym (tracks.variables v h)) (value_of t u) (test t own off) in
      both_ways _ o.clash.apart (all o.possible f.variable o.variable o.flows f.x f.y o.clash.first o.clash.second o.clash.one)

  -- what a search for an offence tells of the assignment in record n
  pub stay_told : (n : ℕ) (o : Option Offence) → always (together d.clocked) u ≡ false
      → MatchOption o (AllUnder m d (sets_of path.values) (has path.variables) (value_of t u)) (Offends m d (sets_of path.values) (has path.variables) (value_of t u))
      → Stayed m d ways (assign u e n) (option_map (λ _. n) o)
  stay_told n None off h = stay_passes h
  stay_told n (Some f) off h = record { here = (refl, stay_breaks f off h); lower = λ lt. absurd (omega arith) }
