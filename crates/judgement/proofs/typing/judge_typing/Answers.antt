use Rattle.std.proofs.lemmas.Result.{err_from_is_err_and, MatchResult-weaker}
use Rattle.records.specs.Trees.{design_of}
use Rattle.judgement.proofs.Telling.{levelled_by, selector_told, flow_told, stay_told, accepted}
use Rattle.judgement.proofs.typing.judge_typing.Goals as goal

pub returns-in_err-check_selectors : goal.returns-in_err-check_selectors
returns-in_err-check_selectors g c formed =
    let m = g.L.Lattice.meaning c.args.tester.now.lattice.now in
    let d = design_of c.args.tester.now.file.now in
    let p = err_from_is_err_and c.from_residual-in_err-check_selectors.result c.from_residual-in_err-check_selectors.ensures.1 in
    let levelled = levelled_by m d c.in_ok-check_tables.ensures c.in_ok-check_labels.ensures in
    rw (p.1, p.2) (selector_told m d formed levelled _ c.in_err-check_selectors.ensures)

pub returns-in_err-check_flows : goal.returns-in_err-check_flows
returns-in_err-check_flows g c formed =
    let m = g.L.Lattice.meaning c.args.tester.now.lattice.now in
    let d = design_of c.args.tester.now.file.now in
    let p = err_from_is_err_and c.from_residual-in_err-check_flows.result c.from_residual-in_err-check_flows.ensures.1 in
    let levelled = levelled_by m d c.in_ok-check_tables.ensures c.in_ok-check_labels.ensures in
    rw (p.1, p.2) (flow_told m (g.met.L.Lattice.lawful c.args.tester.now.lattice.now) c.args.tester.now.file.now formed levelled c.in_ok-check_selectors.ensures _ (c.in_err-check_flows.ensures levelled))

pub returns : goal.returns
returns g c formed =
    let m = g.L.Lattice.meaning c.args.tester.now.lattice.now in
    let d = design_of c.args.tester.now.file.now in
    let laws = g.met.L.Lattice.lawful c.args.tester.now.lattice.now in
    let levelled = levelled_by m d c.in_ok-check_tables.ensures c.in_ok-check_labels.ensures in
    let tests = c.in_ok-check_selectors.ensures in
    let pass = c.in_ok-check_flows.ensures levelled in
    MatchResult-weaker c.check_stays.result c.check_stays.ensures
    (λ x h. accepted m laws c.args.tester.now.file.now formed levelled tests pass h)
    (stay_told m laws c.args.tester.now.file.now formed levelled tests pass)
