use Rattle.rules.proofs.Searches.{NoneBefore}
use Rattle.rules.proofs.firsts.refuse_first.Given as goal

abbrev pub invariant-loop-section : goal.invariant-loop-section
invariant-loop-section g l = NoneBefore l.file l.rule l.section-index
