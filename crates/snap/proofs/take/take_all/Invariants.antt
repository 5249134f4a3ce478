use Rattle.std.proofs.Common.{◌≡◌, ◌+◌, drop}
use Rattle.model.specs.requests.Snapshot.{guid_by, with_snapshots}
use Rattle.world.specs.Tables.{world_of}
use Rattle.snap.proofs.Turns.{IsTaking, closed_world}
use Rattle.snap.proofs.take.take_all.Given as goal

-- those that are left may be taken, and then the table has all
abbrev pub invariant-loop-place : goal.invariant-loop-place
invariant-loop-place l = record {
  taking : IsTaking (closed_world l.to l.table.group) (guid_by l.guids.pool l.guids.next + l.place) (drop l.place l.all);
  rest : (with_snapshots (closed_world l.to l.table.group) (guid_by l.guids.pool l.guids.next + l.place) (drop l.place l.all)).file_systems ≡ (with_snapshots (world_of l.table) (guid_by l.guids.pool l.guids.next) l.all).file_systems;
  group : l.to.group ≡ l.table.group + 1;
}
