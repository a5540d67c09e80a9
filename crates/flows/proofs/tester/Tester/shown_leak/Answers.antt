use Rattle.std.proofs.Common.{rules, ◌≡◌, ap, ◌∙◌, subst}
use Rattle.language.specs.Syntax.{var}
use Rattle.language.specs.Finite.{label_place}
use Rattle.records.specs.Trees.{design_of}
use Rattle.variables.specs.Variables.{has, value_of}
use Rattle.paths.specs.Marks.{place_of, sets_of}
use Rattle.flows.specs.Findings.{Offends}
use Rattle.flows.proofs.Alike.{few}
use Rattle.flows.proofs.Exposing.{exposed}
use Rattle.flows.proofs.tester.Tester.shown_leak.Goals as goal

pub returns-clause-levels : goal.returns-clause-levels
returns-clause-levels g c u e levelled is_q offends =
    let m = g.L.Lattice.meaning c.args.self.now.lattice.now in
    let f = c.args.self.now.file.now in
    let d = design_of f in
    let sets = sets_of c.args.flow.values.now in
    let flow = has c.args.flow.variables.now in
    let is_p : place_of c.from-source.result ≡ label_place (var d c.args.offence.variable).label = c.from-source.ensures ∙ ap label_place c.label.ensures in
    exposed m (g.met.L.Lattice.lawful c.args.self.now.lattice.now) d (few f) sets flow u e
    c.args.offence (subst (λ q. Offends m d sets flow q c.args.offence) is_q offends) (place_of c.from-source.result) (place_of c.args.target) is_p is_q
    (value_of c.some_values-base.result) (value_of c.put_there.result) (value_of c.put_there-values.result) c.some_values-base.ensures c.put_there.ensures c.put_there-values.ensures
    _ _ (c.join_at.ensures levelled) (search rules)
