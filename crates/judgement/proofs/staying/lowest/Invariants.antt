use Rattle.judgement.specs.Findings.{StayedTo}
use Rattle.judgement.proofs.staying.lowest.Given as goal

abbrev pub invariant-loop-b : goal.invariant-loop-b
invariant-loop-b g l = StayedTo (g.L.Lattice.meaning l.tester.lattice.now) l.tester.file.now l.b l.found
