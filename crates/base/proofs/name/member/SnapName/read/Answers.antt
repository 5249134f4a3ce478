use Rattle.std.proofs.Common.{◌≡◌, Some, ap, ◌∙◌}
use Rattle.base.specs.Reading.{target_of, snap_of, snap_in}
use Rattle.base.proofs.name.member.SnapName.read.Goals as goal

pub returns-in-Ok-Snapshot : goal.returns-in-Ok-Snapshot
unfolding snap_of
returns-in-Ok-Snapshot c =
    let read : target_of c.args.bytes.now ≡ Some c.in-Ok-Snapshot.field-0 = c.in-Ok-Snapshot.ensures in
    ap snap_in (read ∙ ap Some c.in-Ok-Snapshot.field-0-is)
