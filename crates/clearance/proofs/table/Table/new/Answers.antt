use Rattle.std.proofs.Common.{◌≡◌, ℕ, ◌*◌, List, take, refl, subst, rules, arith}
use mathlib.Core.Path.{subst⁻¹}
use Rattle.clearance.specs.Tables.{OrderTable, Sound, TableRefused, WorkedOut}
use Rattle.clearance.specs.Squares.{square}
use Rattle.clearance.specs.Tabled.{turn_back, worked_out}
use Rattle.clearance.proofs.table.Table.new.Goals as goal
use Rattle.clearance.proofs.table.Table.new.Goals.{After-padded-bytes}

order_of : (c : After-padded-bytes) → OrderTable c.args.n c.args.bytes.now
order_of c = c.is_order.ensures.0 c.if-not-is_order.false

pub returns-in_err-meets : goal.returns-in_err-meets
returns-in_err-meets c =
    let told : TableRefused c.args.n (Sound c.args.n c.args.bytes.now) c.in_err-meets.field-0.0 = record {
      uncounted = λ no. absurd (no (c.if-n-lt1.false, c.if-n-gt-MOST_ROWS.false));
      unsound = λ _. (λ s. c.in_err-meets.ensures.0 (λ a b h k. let met = s.meets a b h k in (met.0, turn_back a b met.0 met.1)), c.in_err-meets.ensures.1);
    } in
    search rules

pub padded-bytes-requires : goal.padded-bytes-requires
padded-bytes-requires c = omega (arith, square c.args.n c.if-n-gt-MOST_ROWS.false, (c.is_order.ensures.0 c.if-not-is_order.false).size)

whole : (c : After-padded-bytes) → WorkedOut c.args.n c.args.bytes.now c.in_ok-joins.joins c.in_ok-meets.meets
whole c = worked_out _ _ (order_of c) c.in_ok-joins.ensures c.in_ok-meets.ensures

kept : (c : After-padded-bytes) → take (c.args.n * c.args.n) c.padded-bytes.result ≡ c.args.bytes.now
kept c = subst (λ (k : ℕ). take k c.padded-bytes.result ≡ c.args.bytes.now) (whole c).sound.order.size c.padded-bytes.ensures

pub invariant_of-result : goal.invariant_of-result
invariant_of-result c =
    let fits = subst⁻¹ (λ (xs : List ℕ). WorkedOut c.args.n xs c.in_ok-joins.joins c.in_ok-meets.meets) (kept c) (whole c) in
    record { some = c.if-n-lt1.false; most = c.if-n-gt-MOST_ROWS.false; sound = ∣ fits ∣₁ }

pub returns : goal.returns
returns c = let d = (goal.at.returns c).After-padded-bytes in ((c.if-n-lt1.false, c.if-n-gt-MOST_ROWS.false), (whole d).sound, refl, kept d)
