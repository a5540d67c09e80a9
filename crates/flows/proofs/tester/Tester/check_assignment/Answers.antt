use Rattle.std.proofs.Common.{rules, ◌≡◌, ap, ◌∙◌}
use Rattle.language.specs.Syntax.{Expr, Design}
use Rattle.language.specs.Typing.{shape}
use Rattle.language.specs.Finite.{target_place}
use Rattle.records.specs.Trees.{expr_at, design_of}
use Rattle.paths.specs.Marks.{place_of}
use Rattle.flows.proofs.Alike.{few, assignment_passes, exposed_shown}
use Rattle.flows.proofs.tester.Tester.check_assignment.Goals as goal

pub returns-in-Some : goal.returns-in-Some
returns-in-Some g c ways tracks levelled =
    let f = c.args.self.now.file.now in
    let d : Design = design_of f in
    let e : Expr = expr_at f c.args.e in
    let is : place_of c.of_target-target.result ≡ target_place d c.args.u (shape e) = c.of_target-target.ensures ∙ ap (target_place d c.args.u) c.shape_of.ensures in
    let leak = c.shown_leak.result in
    record {
      here = search rules;
      shown =
          exposed_shown (g.L.Lattice.meaning c.args.self.now.lattice.now) d (few f) ways c.args.path.now c.gathered-variables.result tracks e c.gathered-variables.ensures c.args.u leak.flow leak.target
          (c.shown_leak.ensures.levels c.args.u (shape e) levelled is c.in-Some.ensures);
    }

pub returns-in-None : goal.returns-in-None
returns-in-None g c ways tracks levelled =
    let f = c.args.self.now.file.now in
    let d : Design = design_of f in
    let e : Expr = expr_at f c.args.e in
    let is : place_of c.of_target-target.result ≡ target_place d c.args.u (shape e) = c.of_target-target.ensures ∙ ap (target_place d c.args.u) c.shape_of.ensures in
    assignment_passes (g.L.Lattice.meaning c.args.self.now.lattice.now) d (few f) ways c.args.path.now c.gathered-variables.result tracks e c.gathered-variables.ensures c.args.u
    (place_of c.of_target-target.result) is c.in-None.ensures
