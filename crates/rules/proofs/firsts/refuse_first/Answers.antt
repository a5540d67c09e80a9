use Rattle.std.proofs.Common.{rules, sym, ◌∙◌}
use Rattle.rules.proofs.Searches.{section_passed, refused_there}
use Rattle.rules.proofs.firsts.refuse_first.Goals as goal

pub loop-section-preserved : goal.loop-section-preserved
loop-section-preserved g c =
    section_passed c.args.file.now c.args.rule c.loop-section.section-index _ _ c.loop-section.invariant c.loop-section-test.true (sym c.refuse_in.ensures ∙ c.in_ok-refuse_in.was)

pub returns-in_err-refuse_in : goal.returns-in_err-refuse_in
returns-in_err-refuse_in g c =
    let is = refused_there c.args.file.now c.args.rule c.loop-section.section-index _ _ c.loop-section.invariant c.loop-section-test.true (sym c.refuse_in.ensures ∙ c.in_err-refuse_in.was) in
    search (is, rules)
