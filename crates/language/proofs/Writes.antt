-- What a visible variable is written in one valuation it is written in the other.
use Rattle.std.proofs.Common.{◌≡◌, ℕ, ◌^◌, ◌<◌, Bool, true, false, eqb, List, [], ◌∷◌, ◌++◌, map, Some, sym, refl, ap, ◌∙◌, subst}
use Rattle.std.proofs.lemmas.Bool.{and_from}
use Rattle.lattice.specs.Meaning.{Meaning, Below, Laws, All, Joined}
use Rattle.language.specs.Syntax.{Expr, Cmd, Design, looked_up, var, together}
use Rattle.language.specs.Machine.{Valuation, put, eval, written, level}
use Rattle.language.specs.Form.{Way, Each, Apart, always, Reads}
use Rattle.language.specs.Typing.{Fits, allows, leaves, sources, around, Flows, Stays, Anything, Typed, Coming, shape}
use Rattle.lattice.proofs.Lists.{all_left, all_right, all_append, all_weaker}
use Rattle.language.proofs.Joins.{flow_each}
use Rattle.language.proofs.Walks.{each_both}
use Rattle.language.proofs.Values.{Agree, eval_sources, all_sources, eval_fits, coming, leaves_holds}
use Rattle.language.proofs.Commands.{Holds, Conditions, find}
use Rattle.language.proofs.Levels.{See, level_is_level}

-- the conditions and assignments of a block are sized, and read known variables
abbrev pub Sound : Design → (ℕ → Bool) → Cmd → Type 0
Sound d known c = Each (Reads d known 1) (λ path u e. Reads d known (var d u).width e) [] c

holds_same : (ρ σ : Valuation) (path : List Way) → Agree σ ρ (around path) → Holds ρ path → Holds σ path
holds_same ρ σ [] h k = tt
holds_same ρ σ (c ∷ path) h k = (
  ap (λ n. eqb n 1) (eval_sources σ ρ c.0 (all_left (λ v. σ v ≡ ρ v) (sources c.0) (around path) h)) ∙ k.0,
  holds_same ρ σ path (all_right (λ v. σ v ≡ ρ v) (sources c.0) (around path) h) k.1,
)

module _ (d : Design) (known : ℕ → Bool) where
  abbrev Good : Expr → Type 0
  Good e = Reads d known 1 e × Anything e

  known_around : (path : List Way) → Conditions Good path → All (λ v. known v ≡ true) (around path)
  known_around [] h = tt
  known_around (c ∷ path) h =
      all_append (λ v. known v ≡ true) (sources c.0) (around path) (all_sources (λ v. known v ≡ true) c.0 h.0.0.reads) (known_around path h.1)

  allowed : (ρ : Valuation) → Fits d ρ → (path : List Way) → Conditions Good path → Holds ρ path → (v : ℕ) → allows path v (ρ v) ≡ true
  allowed ρ fits [] h k v = refl
  allowed ρ fits (c ∷ path) h k v =
      and_from (leaves c.0 c.1 v (ρ v)) (allows path v (ρ v)) (leaves_holds d ρ fits c.0 h.0.0.sized h.0.0.wide c.1 k.0 v)
      (allowed ρ fits path h.1 k.1 v)

-- a value that is written fits
pub written_fits : (d : Design) (known : ℕ → Bool) (ρ : Valuation) → Fits d ρ → (c : Cmd) → Apart c → Sound d known c
    → (v x : ℕ) → written ρ v c ≡ Some x → x < 2 ^ (var d v).width
written_fits d known ρ fits c apart sound v x h =
    let r = find (Reads d known 1) (λ path u e. Reads d known (var d u).width e) ρ v x [] c apart sound tt tt h in
    subst (λ n. n < 2 ^ (var d v).width) (sym r.value)
    (subst (λ n. eval ρ r.source < 2 ^ n) r.rule.wide (eval_fits d ρ fits r.source r.rule.sized))

module _ (m : Meaning) (d : Design) (laws : Laws m) (typed : Typed m d) (w : ℕ) (known : ℕ → Bool) (ρ σ : Valuation) (see : See m d w known ρ σ) where
  agree : (vs : List ℕ) → All (λ v. known v ≡ true) vs → All (λ v. Below m (level d ρ v) w) vs → Agree σ ρ vs
  agree [] h k = tt
  agree (v ∷ vs) h k = ((see v h.0 k.0).0, agree vs h.1 k.1)

  visible : (vs : List ℕ) (l : ℕ) → ((j : ℕ) → Joined m (map (level d ρ) vs) j → Below m j l) → Below m l w → All (λ v. Below m (level d ρ v) w) vs
  visible vs l h k =
      all_weaker (λ v. Below m (level d ρ v) l) (λ v. Below m (level d ρ v) w) (λ v q. laws.order.transitive (level d ρ v) l w q k) vs
      (flow_each m laws (level d ρ) (level_is_level m d typed.levelled ρ) vs l h)

  -- where the conditions around are visible, the same way is taken
  same_way : (path : List Way) → Conditions (Good d known) path → All (λ v. Below m (level d ρ v) w) (around path) → Holds ρ path → Holds σ path
  same_way path h k = holds_same ρ σ path (agree (around path) (known_around d known path h) k)

  -- what is written in one is written in the other, where 13 holds and the coming level is visible
  pub same_write : Fits d ρ → (c : Cmd) → Apart c → Sound d known c → Each Anything (Flows m d) [] c
      → (v x : ℕ) → written ρ v c ≡ Some x → Below m (level d (put ρ v x) v) w → written σ v c ≡ Some x
  same_write fits c apart sound flows v x h seen =
      let R : List Way → ℕ → Expr → Type 0 = λ path u e. Reads d known (var d u).width e in
      let r = find (Good d known) (λ path u e. R path u e × Flows m d path u e) ρ v x [] c apart
      (each_both (Reads d known 1) Anything R (Flows m d) [] c sound flows) tt tt h in
      let e = r.source in
      let may : Coming ρ (var d v).width (shape e) x =
      subst (Coming ρ (var d v).width (shape e)) (sym r.value) (coming d ρ fits e (var d v).width r.rule.0.sized r.rule.0.wide) in
      let flow = r.rule.1 ρ fits (λ u inside narrow. allowed d known ρ fits r.way r.conditions r.taken u) x may in
      let all = visible (sources e ++ around r.way) (level d (put ρ v x) v) flow seen in
      let there = same_way r.way r.conditions (all_right (λ u. Below m (level d ρ u) w) (sources e) (around r.way) all) r.taken in
      let value = eval_sources σ ρ e (agree (sources e) (all_sources (λ u. known u ≡ true) e r.rule.0.reads) (all_left (λ u. Below m (level d ρ u) w) (sources e) (around r.way) all)) in
      (r.again σ there).1 ∙ ap Some (value ∙ sym r.value)

  -- what is written in one is written in the other, where 14 holds and the present level is visible
  pub still_written : Fits d ρ → (c : Cmd) → Apart c → Sound d known c → Each Anything (Stays m d) [] c
      → (v t : ℕ) → (var d v).label ≡ looked_up t v → always (together d.clocked) v ≡ false
      → (x : ℕ) → written ρ v c ≡ Some x → Below m (level d ρ v) w → (y : ℕ) × (written σ v c ≡ Some y)
  still_written fits c apart sound stays v t own off x h seen =
      let R : List Way → ℕ → Expr → Type 0 = λ path u e. Reads d known (var d u).width e in
      let r = find (Good d known) (λ path u e. R path u e × Stays m d path u e) ρ v x [] c apart
      (each_both (Reads d known 1) Anything R (Stays m d) [] c sound stays) tt tt h in
      let flow = r.rule.1 t own off ρ fits (λ u inside narrow. allowed d known ρ fits r.way r.conditions r.taken u) in
      let there = same_way r.way r.conditions (visible (around r.way) (level d ρ v) flow seen) r.taken in
      (eval σ r.source, (r.again σ there).1)
