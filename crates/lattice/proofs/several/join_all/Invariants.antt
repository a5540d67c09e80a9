use Rattle.std.proofs.Common.{take}
use Rattle.lattice.specs.Meaning.{Joined}
use Rattle.lattice.proofs.several.join_all.Given as goal

abbrev pub invariant-loop-a : goal.invariant-loop-a
invariant-loop-a g l = Joined (g.L.Lattice.meaning l.l) (take l.a-index l.levels) l.join
