use Rattle.std.proofs.Common.{rules, Some, None, sym, ◌∙◌}
use Rattle.records.specs.Layouts.{breaks, over}
use Rattle.records.proofs.Earliest.{broken_at, exceeded_at}
use Rattle.records.proofs.layout.layout_of.Goals as goal

pub returns-in-Some : goal.returns-in-Some
returns-in-Some c =
    let is = broken_at (breaks c.args.file.now) (Some c.in-Some.section) (sym c.in-Some.is ∙ c.first_broken.ensures) in
    search rules

pub returns-in-Some-first_over : goal.returns-in-Some-first_over
returns-in-Some-first_over c =
    let whole = broken_at (breaks c.args.file.now) None (sym c.in_default.is ∙ c.first_broken.ensures) in
    let is = exceeded_at (over c.args.file.now) (Some c.in-Some-first_over.section) (sym c.in-Some-first_over.is ∙ c.first_over.ensures) in
    search rules

pub returns : goal.returns
returns c =
    let whole = broken_at (breaks c.args.file.now) None (sym c.in_default.is ∙ c.first_broken.ensures) in
    let few = exceeded_at (over c.args.file.now) None (sym c.in_default-first_over.is ∙ c.first_over.ensures) in
    search rules
