use Rattle.std.proofs.Common.{rules, ◌≡◌, true, false, refl, arith}
use Rattle.std.proofs.lemmas.Iterator.{cases_from_any, YieldsList-from_range}
use Rattle.rules.specs.Blocks.{clocked_at}
use Rattle.rules.proofs.Searches.{any_is}
use Rattle.rules.proofs.blocks.is_clocked_before.Goals as goal

pub returns : goal.returns
returns c =
    let clocked = clocked_at c.args.file.now in
    any_is clocked c.args.n c.any.result
    (cases_from_any _ _ _ (λ x. true ≡ clocked x) (λ x. false ≡ clocked x) c.any.ensures.ran (YieldsList-from_range 0 c.args.n c.args.n refl (omega arith)) (λ x q k. search rules) (λ x q k. search rules))
