use Rattle.language.specs.Typing.{Levelled}
use Rattle.records.specs.Trees.{design_of}
use Rattle.variables.specs.Variables.{has, value_of}
use Rattle.flows.specs.Findings.{JoinBelow}
use Rattle.flows.proofs.tester.Tester.join_at.Given as goal

abbrev pub invariant-loop-v : goal.invariant-loop-v
invariant-loop-v g l =
    Levelled (g.L.Lattice.meaning l.self.lattice.now) (design_of l.self.file.now)
    → JoinBelow (g.L.Lattice.meaning l.self.lattice.now) (design_of l.self.file.now) (value_of l.values) (has l.variables) l.v l.join
