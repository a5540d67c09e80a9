use Rattle.std.proofs.Common.{◌≡◌, length}
use Rattle.survey.specs.Sums.{any}
use Rattle.survey.specs.Sets.{writes_wrong, Marked}
use Rattle.survey.proofs.marks.wrong_in.Given as goal

abbrev pub invariant-loop-b : goal.invariant-loop-b
invariant-loop-b l = (length l.marks ≡ 512) × Marked l.marks (λ n. any (writes_wrong l.file n) l.b)
