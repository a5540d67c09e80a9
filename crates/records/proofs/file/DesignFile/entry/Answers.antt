use Rattle.std.proofs.Common.{◌*◌, ◌<◌, ◌≤◌, sym, ap, ◌∙◌, subst}
use Rattle.records.specs.Bytes.{field_of}
use Rattle.records.proofs.Tables.{entry_at, entry_no_table, entry_past}
use Rattle.records.proofs.file.DesignFile.entry.Goals as goal

pub returns-then-t-count : goal.returns-then-t-count
returns-then-t-count c = sym (entry_no_table c.args.self.now c.args.t c.args.i (subst (λ n. n ≤ c.args.t) c.count.ensures.is c.if-t-count.true))

pub returns : goal.returns
returns c =
    c.field.ensures ∙ ap (λ s. field_of s (4 * c.args.i)) c.«record».ensures
    ∙ sym (entry_at c.args.self.now c.args.t c.args.i (subst (λ n. c.args.t < n) c.count.ensures.is c.if-t-count.false) c.if-i-ge-ENTRIES.false)

pub returns-then-i-ge-ENTRIES : goal.returns-then-i-ge-ENTRIES
returns-then-i-ge-ENTRIES c = sym (entry_past c.args.self.now c.args.t c.args.i c.if-i-ge-ENTRIES.true)
