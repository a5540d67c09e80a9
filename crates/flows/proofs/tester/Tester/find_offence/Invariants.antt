use Rattle.std.proofs.Common.{◌≡◌, ℕ, ◌<◌, true}
use Rattle.language.specs.Syntax.{var}
use Rattle.language.specs.Finite.{Under, label_place}
use Rattle.records.specs.Trees.{design_of}
use Rattle.variables.specs.Variables.{has}
use Rattle.paths.specs.Marks.{place_of, sets_of}
use Rattle.flows.proofs.tester.Tester.find_offence.Given as goal

abbrev pub invariant-loop-v : goal.invariant-loop-v
invariant-loop-v g l =
    let d = design_of l.self.file.now in
    (k : ℕ) → k < l.v → has l.flow.variables.now k ≡ true
    → Under (g.L.Lattice.meaning l.self.lattice.now) d (sets_of l.flow.values.now) (label_place (var d k).label) (place_of l.trials.origin)
