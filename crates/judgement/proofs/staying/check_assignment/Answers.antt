use Rattle.std.proofs.Common.{rules, ◌≡◌, false, sym, ap, ◌∙◌}
use Rattle.std.specs.Option.{option_map}
use Rattle.language.specs.Syntax.{Design, looked_up, var, together}
use Rattle.language.specs.Form.{always}
use Rattle.records.specs.Trees.{design_of}
use Rattle.flows.proofs.Alike.{few}
use Rattle.judgement.proofs.Keeping.{stay_told}
use Rattle.judgement.proofs.staying.check_assignment.Goals as goal

pub returns-else-always_clocked : goal.returns-else-always_clocked
returns-else-always_clocked g c ways tracks e =
    let f = c.args.tester.now.file.now in
    let d : Design = design_of f in
    let u = c.args.u in
    let table = c.in-LookedUp.table in
    let own : (var d u).label ≡ looked_up table u = sym c.in-LookedUp.ensures ∙ ap (looked_up table) c.if-selector-u.true in
    let off : always (together d.clocked) u ≡ false = sym c.always_clocked.ensures ∙ c.if-always_clocked.false in
    let is : c.map.result ≡ option_map (λ _. c.args.n) c.find_offence.result = search rules in
    rw is (stay_told (g.L.Lattice.meaning c.args.tester.now.lattice.now) d (few f) ways c.args.path.now tracks u table own e c.args.n c.find_offence.result off c.find_offence.ensures)
