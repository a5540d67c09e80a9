use Rattle.std.proofs.Common.{◌≡◌, length}
use Rattle.survey.specs.Sets.{Assigns}
use Rattle.survey.proofs.reach.assigned_by.Given as goal

abbrev pub invariant-loop-b : goal.invariant-loop-b
invariant-loop-b l = (length l.each ≡ 32) × Assigns l.file l.b l.all l.each
