use Rattle.std.proofs.Common.{sym, ◌∙◌}
use Rattle.records.proofs.Designs.{count_is}
use Rattle.records.proofs.file.DesignFile.variable_count.Goals as goal

pub returns-clause-is : goal.returns-clause-is
returns-clause-is c = c.count.ensures.is ∙ sym (count_is c.args.self.now)
