use Rattle.std.proofs.Common.{ℕ, ◌<◌, ◌≤◌, List, length, get_or, sym, subst, arith}
use Rattle.std.proofs.lemmas.List.{take_more, take_all}
use Rattle.lattice.specs.Meaning.{Joined}
use Rattle.lattice.proofs.Joining.{join_more}
use Rattle.lattice.proofs.Lists.{all_place}
use Rattle.lattice.proofs.several.join_all.Goals as goal

pub returns-then-a-count : goal.returns-then-a-count
returns-then-a-count g c all =
    let m = g.L.Lattice.meaning c.args.l.now in
    let h : get_or c.args.levels.now c.loop-a.a-index 0 < m.count =
    all_place (λ (a : ℕ). a < m.count) 0 c.args.levels.now c.loop-a.a-index c.loop-a-test.true all in
    omega (arith, c.count.ensures)

pub loop-a-preserved : goal.loop-a-preserved
loop-a-preserved g c =
    let l = c.args.l.now in
    let m = g.L.Lattice.meaning l in
    let levels = c.args.levels.now in
    let h : get_or levels c.loop-a.a-index 0 < m.count = omega (arith, c.count.ensures) in
    subst (λ (xs : List ℕ). Joined m xs c.join-join.result) (sym (take_more levels c.loop-a.a-index 0 c.loop-a-test.true))
    (join_more (g.met.L.Lattice.lawful l) _ _ _ _ h c.loop-a.invariant c.join-join.ensures)

pub returns : goal.returns
returns g c =
    let m = g.L.Lattice.meaning c.args.l.now in
    let levels = c.args.levels.now in
    let end : length levels ≤ c.loop-a.a-index = omega arith in
    subst (λ (xs : List ℕ). Joined m xs c.loop-a.join) (take_all c.loop-a.a-index levels end) c.loop-a.invariant
