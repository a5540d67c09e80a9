use Rattle.std.proofs.Common.{◌≡◌, Ok, rules}
use Rattle.language.specs.Machine.{driven}
use Rattle.records.specs.Trees.{design_of}
use Rattle.machine.proofs.Steps.{driven_low, drive_is}
use Rattle.machine.proofs.calls.drive.Goals as goal

pub returns : goal.returns
returns c =
    let ok : Ok tt ≡ driven (design_of c.args.file.now) c.args.v c.args.x = search rules in
    let low = driven_low c.args.file.now c.args.v c.args.x ok in
    record {
      answer = ok;
      held = drive_is (design_of c.args.file.now) c.args.held.now c.set.new.self _ c.args.v c.args.x low ok c.set.ensures (search rules);
    }
