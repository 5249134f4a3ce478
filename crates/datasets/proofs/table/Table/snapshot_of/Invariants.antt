use Rattle.std.proofs.Common.{◌≡◌, drop, map}
use Rattle.std.specs.Arc.{arc_value}
use Rattle.file_system.specs.Rows.{Row}
use Rattle.model.specs.Ids.{snap_id}
use Rattle.model.specs.World.{snap_at}
use Rattle.world.specs.Tables.{world_of}
use Rattle.datasets.proofs.Placed.{placed_in}
use Rattle.datasets.proofs.table.Table.snapshot_of.Given as goal

-- it is of one of the file systems that are left, if it is there
abbrev pub invariant-loop-file_system : goal.invariant-loop-file_system
invariant-loop-file_system l =
    placed_in (snap_id l.id) (drop l.file_system-index (map (arc_value {X = Row}) l.file_system-items)) ≡ snap_at (world_of l.self) (snap_id l.id)
