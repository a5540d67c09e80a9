use Rattle.std.proofs.Common.{◌+◌, sym, subst, rules}
use Rattle.records.specs.Trees.{design_of}
use Rattle.variables.specs.Variables.{has, value_of}
use Rattle.flows.specs.Findings.{JoinBelow}
use Rattle.flows.proofs.Exposing.{join_none, join_more, join_skip}
use Rattle.flows.proofs.tester.Tester.join_at.Goals as goal
use Rattle.flows.proofs.tester.Tester.join_at.Goals.{then-contains, else-contains}

pub loop-v-init : goal.loop-v-init
loop-v-init g c levelled =
    join_none _ (g.met.L.Lattice.lawful c.args.self.now.lattice.now) _ levelled (value_of c.args.values.now) (has c.args.variables.now) c.lowest-join.result c.lowest-join.ensures

pub loop-v-preserved : goal.loop-v-preserved
loop-v-preserved g c levelled =
    let m = g.L.Lattice.meaning c.args.self.now.lattice.now in
    let d = design_of c.args.self.now.file.now in
    let laws = g.met.L.Lattice.lawful c.args.self.now.lattice.now in
    let ρ = value_of c.args.values.now in
    let flow = has c.args.variables.now in
    elim c.if-contains.branch [
      | then-contains w ↦ join_more m laws d levelled ρ flow c.loop-v.v c.loop-v.join c.if-contains.join (c.loop-v.invariant levelled) (search rules) (search rules)
      | else-contains w ↦ subst (JoinBelow m d ρ flow (c.loop-v.v + 1)) (sym w.join-is) (join_skip m laws d levelled ρ flow c.loop-v.v c.loop-v.join (c.loop-v.invariant levelled) (search rules))
    ]
