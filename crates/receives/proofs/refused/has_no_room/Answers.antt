use Rattle.std.proofs.Common.{arith}
use Rattle.std.proofs.lemmas.Bool.Decides.{nat_tests}
use Rattle.world.specs.Tables.{world_of}
use Rattle.receives.proofs.Refusals.{room_is}
use Rattle.receives.proofs.refused.has_no_room.Goals as goal

pub returns-then-saturating_sub-ge-SNAPSHOT_LIMIT : goal.returns-then-saturating_sub-ge-SNAPSHOT_LIMIT
returns-then-saturating_sub-ge-SNAPSHOT_LIMIT c =
    let is = room_is (world_of c.args.table.now) c.args.going in
    let n = c.snapshot_count.ensures in
    let s = c.saturating_sub.ensures in
    Prim.grind (arith, nat_tests)

pub returns-else-saturating_sub-ge-SNAPSHOT_LIMIT : goal.returns-else-saturating_sub-ge-SNAPSHOT_LIMIT
returns-else-saturating_sub-ge-SNAPSHOT_LIMIT c =
    let is = room_is (world_of c.args.table.now) c.args.going in
    let n = c.snapshot_count.ensures in
    let s = c.saturating_sub.ensures in
    let g = c.group.ensures in
    Prim.grind (arith, nat_tests)
