use Rattle.std.proofs.Common.{ℕ, ◌<◌}
use Rattle.lattice.specs.Meaning.{Below}
use Rattle.language.specs.Finite.{Tries, One, level_at}
use Rattle.records.specs.Trees.{design_of}
use Rattle.paths.specs.Marks.{place_of, sets_of}
use Rattle.paths.specs.Trying.{Tabled}
use Rattle.flows.proofs.tester.Tester.offence_at.Given as goal

abbrev pub invariant-loop-x : goal.invariant-loop-x
invariant-loop-x g l =
    let m = g.L.Lattice.meaning l.self.lattice.now in
    let d = design_of l.self.file.now in
    let sets = sets_of l.values in
    let p = place_of l.source.origin in
    let q = place_of l.target.origin in
    Tabled d sets l.target → (k y : ℕ) → k < l.x → Tries d sets p k → Tries d sets q y → One p q k y → Below m (level_at d p k) (level_at d q y)
