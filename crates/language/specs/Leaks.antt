-- Five designs that leak. Each would be accepted, or be safe, if one rule were weaker in one point; so each rule is needed.
use Rattle.std.specs.Prelude.{◌≡◌, ℕ, ◌^◌, ◌<◌, cond, ◌↔◌, List, [], ◌∷◌, map}
use Rattle.lattice.specs.Kinds.{chain}
use Rattle.lattice.specs.Meaning.{Meaning, Below, Laws, Joined}
use Rattle.language.specs.Syntax.{Expr, Cmd, Design, constant, variable, idle, seq, choice, assign, port, register, fixed, looked_up, var, together}
use Rattle.language.specs.Machine.{Valuation, put, after, values, level, inside, held, opening, Call, drive, clock, reset, read, accepts, answer}
use Rattle.language.specs.Form.{Way, Every, Apart, Reads, Settling, Clocks, Selects, Formed}
use Rattle.language.specs.Typing.{Fits, Allowed, sources, Coming, shape, Flows, Stays, Reaches, TableLevels, LabelLevel, Anything, Typed}
use Rattle.language.specs.Guarantee.{stays, Secure}

-- the chain of two levels: 0 is public, 1 is secret
abbrev pub two : Meaning
two = chain 2

-- ---- rules with one of them weaker

-- the rules of form and typing, four of them as the caller says
pub record Rules (d : Design) (apart entries : Type 0) (F S : List Way → ℕ → Expr → Type 0) : Type 0 where
  pub resets : (v : ℕ) → (var d v).reset < 2 ^ (var d v).width
  pub settling : Settling d (held d) d.settled
  pub clocking : Every (Reads d (inside d) 1) (λ path. Clocks d) d.clocked
  pub separate : apart
  pub selectors : (v t s : ℕ) → (var d v).label ≡ looked_up t s → Selects d v s
  pub levels : entries
  pub labels : (v : ℕ) → LabelLevel two d v
  pub reaches : (v : ℕ) → Reaches two d v
  pub settled_flows : Every Anything F d.settled
  pub clocked_flows : Every Anything F d.clocked
  pub staying : Every Anything S d.clocked

abbrev pub Separate : Design → Type 0
Separate d = Apart (together d.clocked)

abbrev pub Entries : Design → Type 0
Entries d = (t : ℕ) → TableLevels two d t

abbrev pub AllRules : Design → Type 0
AllRules d = Rules d (Separate d) (Entries d) (Flows two d) (Stays two d)

-- 13 without the conditions around
abbrev pub BareFlows : Design → List Way → ℕ → Expr → Type 0
BareFlows d path u e =
    (ρ : Valuation) → Fits d ρ → Allowed d path ρ
    → (x : ℕ) → Coming ρ (var d u).width (shape e) x
    → (j : ℕ) → Joined two (map (level d ρ) (sources e)) j
    → Below two j (level d (put ρ u x) u)

abbrev pub ConditionsLeftOut : Design → Type 0
ConditionsLeftOut d = Rules d (Separate d) (Entries d) (BareFlows d) (Stays two d)

-- 14 asks nothing
abbrev pub SkipsAllowed : Design → Type 0
SkipsAllowed d = Rules d (Separate d) (Entries d) (Flows two d) (λ path u e. Unit)

-- 11 asks nothing of tables
abbrev pub AnyEntries : Design → Type 0
AnyEntries d = Rules d (Separate d) Unit (Flows two d) (Stays two d)

-- two assignments of one variable may stand on one path
abbrev pub OverlapsAllowed : Design → Type 0
OverlapsAllowed d = Rules d Unit (Entries d) (Flows two d) (Stays two d)

-- ---- the machine without clearing

abbrev pub keep : Design → Valuation → Call → Valuation
keep d σ (drive v x) = cond (accepts d v x) (put σ v x) σ
keep d σ clock = after (values d σ) σ (together d.clocked)
keep d σ reset = opening d
keep d σ (read m w v) = σ

abbrev pub keep_run : Design → Valuation → List Call → Valuation
keep_run d σ [] = σ
keep_run d σ (c ∷ cs) = keep_run d (keep d σ c) cs

abbrev pub keep_strike : Design → ℕ → Valuation → List Call → List Call
keep_strike d w σ [] = []
keep_strike d w σ (c ∷ cs) = cond (stays two d w σ c) (c ∷ keep_strike d w (keep d σ c) cs) (keep_strike d w (keep d σ c) cs)

-- the first half of the guarantee, of that machine
abbrev pub KeptBounded : Design → Type 0
KeptBounded d =
    (w : ℕ) (cs ds : List Call) → keep_strike d w (opening d) cs ≡ keep_strike d w (opening d) ds
    → (v : ℕ) → answer two d (keep_run d (opening d) cs) w v ≡ answer two d (keep_run d (opening d) ds) w v

-- ---- the designs; every variable is 1 wide

-- variable 0 is a secret port, 1 a register that is its own selector, with the table 0, top, and 2 a public register
abbrev pub sample : ℕ → ℕ → Cmd → Design
sample top start block = record {
  tables = (0 ∷ top ∷ []) ∷ [];
  variables =
      record { kind = port; width = 1; label = fixed 1; reset = 0 }
      ∷ record { kind = register; width = 1; label = looked_up 0 1; reset = start }
      ∷ record { kind = register; width = 1; label = fixed 0; reset = 0 }
      ∷ [];
  settled = [];
  clocked = block ∷ [];
}

-- the public register becomes 1 where the secret is 1, otherwise 0
abbrev pub copying : Design
copying = sample 1 0 (choice (variable 1 0 0) (assign 2 (constant 1 1) 0) (assign 2 (constant 1 0) 1))

-- the register that is its own selector becomes 1, and so secret, where the secret is 1; otherwise it stays 0, and public
abbrev pub skipping : Design
skipping = sample 1 0 (choice (variable 1 0 0) (assign 1 (constant 1 1) 0) idle)

-- the same, with 0 assigned first, so that there is an assignment on every path
abbrev pub overlapping : Design
overlapping = sample 1 0 (seq (assign 1 (constant 1 0) 0) (choice (variable 1 0 0) (assign 1 (constant 1 1) 1) idle))

-- the public register becomes the secret where a register of a level that is none is 1, as it always is
abbrev pub levelless : Design
levelless = sample 5 1 (choice (variable 1 1 0) (assign 2 (variable 1 0 1) 0) idle)

-- variable 0 is a public port, 1 a secret port, and 2 a register under port 0, with the table 0, 1, that takes the secret where port 0 is 1
abbrev pub keeping : Design
keeping = record {
  tables = (0 ∷ 1 ∷ []) ∷ [];
  variables =
      record { kind = port; width = 1; label = fixed 0; reset = 0 }
      ∷ record { kind = port; width = 1; label = fixed 1; reset = 0 }
      ∷ record { kind = register; width = 1; label = looked_up 0 0; reset = 0 }
      ∷ [];
  settled = [];
  clocked = choice (variable 1 0 0) (assign 2 (variable 1 1 1) 0) idle ∷ [];
}

-- ---- what is proved of them

pub record Leaks : Type 0 where
  pub lattice : Laws two
  -- with nothing weaker, the rules are those of form and typing
  pub whole : (d : Design) → AllRules d ↔ (Formed d × Typed two d)
  pub conditions : ConditionsLeftOut copying × (Secure two copying → ⊥)
  pub skipped : SkipsAllowed skipping × (Secure two skipping → ⊥)
  pub no_level : AnyEntries levelless × (Secure two levelless → ⊥)
  pub overlap : OverlapsAllowed overlapping × (Secure two overlapping → ⊥)
  -- this one is accepted, and leaks only where the machine does not clear
  pub uncleared : Formed keeping × Typed two keeping × (KeptBounded keeping → ⊥)
