use Rattle.std.proofs.Common.{◌≡◌, Bool, Decides, sym, subst, rules, tests}
use Rattle.std.proofs.lemmas.Iterator.{YieldsList-from_slice}
use Rattle.std.proofs.lemmas.Iterator.Search.{all_from_yields_List}
use Rattle.std.specs.List.{list_all}
use Rattle.lattice.specs.Meaning.{EachBelow}
use Rattle.lattice.proofs.Lists.{all_decided}
use Rattle.lattice.proofs.Joining.{join_decides}
use Rattle.lattice.proofs.several.all_below.Goals as goal

pub returns : goal.returns
returns g c =
    let m = g.L.Lattice.meaning c.args.l.now in
    let levels = c.args.levels.now in
    let top = c.args.top in
    let answer : c.all.result ≡ list_all (λ a. m.below a top) levels =
    all_from_yields_List _ _ _ c.all.result c.all.ensures.ran (YieldsList-from_slice levels cc) (λ x b q k. search (rules, tests)) in
    let each : Decides c.all.result (EachBelow m levels top) =
    subst (λ (r : Bool). Decides r (EachBelow m levels top)) (sym answer) (all_decided (λ a. m.below a top) levels) in
    record { each = each; join = join_decides (g.met.L.Lattice.lawful c.args.l.now) levels top c.all.result each }
