use Rattle.std.proofs.Common.{◌≡◌, None}
use Rattle.rules.specs.First.{first, refused_at}
use Rattle.rules.proofs.firsts.refuse_in.Given as goal

abbrev pub invariant-loop-n : goal.invariant-loop-n
invariant-loop-n g l = first (refused_at l.file l.rule l.section) l.n ≡ None
