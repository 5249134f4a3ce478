-- Snapshots of a table's live maps.
use Rattle.std.specs.Prelude.{◌+◌, ℕ, List}
use Rattle.std.specs.Option.{option_map_or}
use Rattle.std.specs.FinMap.{get}
use Rattle.base.specs.declared.name.member.Member.{Member}
use Rattle.model.specs.requests.Snapshot.{with_snapshots}
use Rattle.world.specs.Tables.{Datasets, world_of, with_system}
use Rattle.file_system.specs.Rows.{with_snap}

-- a snapshot of the live map of this file system after its others (zfs-snapshot(8))
abbrev pub with_snap_at : Datasets → List ℕ → List ℕ → ℕ → ℕ → Datasets
with_snap_at t name component guid group = option_map_or (λ f. with_system t name (with_snap f component guid group)) (get t.file_systems name) t

-- snapshots of these names in the open group, with guids from this one on, and the group closed (zfs-snapshot(8); guids are profile)
abbrev pub taken_of : Datasets → ℕ → List Member → Datasets
taken_of t guid ms = record { file_systems = (with_snapshots (world_of t) guid ms).file_systems; group = t.group + 1 }
