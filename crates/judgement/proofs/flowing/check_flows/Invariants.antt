use Rattle.std.proofs.Common.{ℕ, ◌<◌, []}
use Rattle.language.specs.Form.{Each}
use Rattle.language.specs.Typing.{Anything, Levelled}
use Rattle.language.specs.Finite.{Test13}
use Rattle.records.specs.Trees.{body_at, design_of}
use Rattle.judgement.proofs.flowing.check_flows.Given as goal

abbrev pub invariant-loop-b : goal.invariant-loop-b
invariant-loop-b g l =
    Levelled (g.L.Lattice.meaning l.tester.lattice.now) (design_of l.tester.file.now)
    → (b : ℕ) → b < l.b → Each Anything (Test13 (g.L.Lattice.meaning l.tester.lattice.now) (design_of l.tester.file.now)) [] (body_at l.tester.file.now b)
