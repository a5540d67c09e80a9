use Rattle.std.proofs.Common.{refl}
use Rattle.std.proofs.lemmas.List.{take_at}
use Rattle.clearance.proofs.table.padded.Goals as goal

pub returns : goal.returns
returns c = simp c.copy_from_slice.ensures.after (take_at c.args.bytes.now _ _ refl)
