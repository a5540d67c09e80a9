use Rattle.std.proofs.Common.{true, false, ◌∷◌, sym, subst}
use Rattle.language.specs.Syntax.{Cmd}
use Rattle.records.specs.Trees.{expr_at, cmd_at, design_of}
use Rattle.judgement.specs.Findings.{Stayed, lower_of}
use Rattle.judgement.proofs.Lowest.{stayed_seq, stayed_choice}
use Rattle.judgement.proofs.staying.+lowest_in.Goals as goal

pub returns-in-Both : goal.returns-in-Both
returns-in-Both g t c ways tracks =
    let m = g.L.Lattice.meaning c.args.tester.now.lattice.now in
    let f = c.args.tester.now.file.now in
    let d = design_of f in
    let ra = c.lowest_in-one.result in
    let rb = c.lowest_in-two.result in
    subst (Stayed m d ways (cmd_at f c.args.n)) (sym c.lower.ensures)
    (subst (λ (z : Cmd). Stayed m d ways z (lower_of ra rb)) (sym c.in-Both.ensures.tree)
    (stayed_seq m d ra rb ways (cmd_at f c.in-Both.first) (cmd_at f c.in-Both.second) (c.lowest_in-one.ensures ways tracks) (c.lowest_in-two.ensures ways tracks)))

pub returns-in-Choose : goal.returns-in-Choose
returns-in-Choose g t c ways tracks =
    let m = g.L.Lattice.meaning c.args.tester.now.lattice.now in
    let f = c.args.tester.now.file.now in
    let d = design_of f in
    let e = expr_at f c.in-Choose.condition in
    let ra = c.lowest_in-one-in-Choose.result in
    let rb = c.lowest_in-two-in-Choose.result in
    subst (Stayed m d ways (cmd_at f c.args.n)) (sym c.lower-in-Choose.ensures)
    (subst (λ (z : Cmd). Stayed m d ways z (lower_of ra rb)) (sym c.in-Choose.ensures.tree)
    (stayed_choice m d ra rb ways e (cmd_at f c.in-Choose.yes) (cmd_at f c.in-Choose.no)
    (c.lowest_in-one-in-Choose.ensures ((e, true) ∷ ways) (c.past-on.ensures ways tracks)) (c.lowest_in-two-in-Choose.ensures ((e, false) ∷ ways) (c.past-off.ensures ways tracks))))
