use Rattle.std.proofs.Common.{arith}
use Rattle.world.specs.Tables.{world_of}
use Rattle.snap.proofs.Rooms.{too_many, few_guids}
use Rattle.snap.proofs.check.has_no_room.Goals as goal

pub returns-then-count-saturating_sub : goal.returns-then-count-saturating_sub
returns-then-count-saturating_sub c = too_many (world_of c.args.table.now) c.args.next c.args.count c.snapshot_count.result c.snapshot_count.ensures c.requires (omega arith)

pub returns-else-next-gt-LAST_GUID : goal.returns-else-next-gt-LAST_GUID
returns-else-next-gt-LAST_GUID c =
    few_guids (world_of c.args.table.now) c.args.next c.args.count c.snapshot_count.result c.snapshot_count.ensures c.requires (omega arith) (omega (arith, c.group.ensures)) c.if-next-gt-LAST_GUID.false
