use Rattle.std.proofs.Common.{◌≡◌, length}
use Rattle.survey.specs.Sums.{any}
use Rattle.survey.specs.Sets.{reads_early, Marked}
use Rattle.survey.proofs.marks.early_in.Given as goal

abbrev pub invariant-loop-b : goal.invariant-loop-b
invariant-loop-b l = (length l.marks ≡ 1024) × Marked l.marks (λ e. any (reads_early l.file e) l.b)
