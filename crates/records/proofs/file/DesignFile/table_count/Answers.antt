use Rattle.std.proofs.Common.{sym, ◌∙◌}
use Rattle.records.proofs.Tables.{tables_is}
use Rattle.records.proofs.file.DesignFile.table_count.Goals as goal

pub returns : goal.returns
returns c = c.count.ensures.is ∙ sym (tables_is c.args.self.now)
