use Rattle.std.proofs.Common.{◌≡◌, ℕ, ◌+◌, Bool, true, false, cond, add-one, arith}
use Rattle.clearance.specs.Text.{tally, begins}
use Rattle.clearance.proofs.text.line_count.Goals as goal
use Rattle.clearance.proofs.text.line_count.Goals.{then-begins_line, else-begins_line}

-- one place more, where the test came out as b
tally_more : (p : ℕ → Bool) (i : ℕ) (b : Bool) → b ≡ p i → tally p (i + 1) ≡ tally p i + cond b 1 0
tally_more p i b e = rw (add-one, e)

pub loop-i-preserved : goal.loop-i-preserved
loop-i-preserved c =
    let p = begins c.args.text.now in
    let i = c.loop-i.i in
    elim c.if-begins_line.branch [
      | then-begins_line w ↦
          let more : tally p (i + 1) ≡ tally p i + 1 = tally_more p i true w.if-begins_line.ensures in
          (omega (arith, w.lines-is), omega (arith, w.lines-is))
      | else-begins_line w ↦
          let more : tally p (i + 1) ≡ tally p i + 0 = tally_more p i false w.if-begins_line.ensures in
          (omega (arith, w.lines-is), omega (arith, w.lines-is))
    ]
