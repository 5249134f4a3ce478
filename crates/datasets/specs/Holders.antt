-- Where a snapshot stands in a table.
use Rattle.std.specs.Prelude.{◌≡◌, ℕ, List, Option, Some, IfSome}
use Rattle.std.specs.List.{find}
use Rattle.std.specs.Option.{option_map, option_and_then}
use Rattle.std.specs.FinMap.{get}
use Rattle.base.specs.Surveys.{IsIn}
use Rattle.base.specs.Names.{same_name}
use Rattle.base.specs.declared.name.member.Member.{Member}
use Rattle.model.specs.World.{Snap, SnapId, id_of, same_id}
use Rattle.world.specs.Tables.{Datasets}
use Rattle.file_system.specs.Rows.{Row, snaps_at}
use Rattle.datasets.specs.Clones.{row_in}

-- a snapshot with its file system, by its name (zfs(8))
abbrev pub snapshot_place : Datasets → Member → Option (Row × Snap)
snapshot_place t m =
    option_and_then (λ f. option_map (λ u. (row_in t.file_systems (m.file_system, f), u)) (find (λ u. same_name u.name m.component) f.snaps)) (get t.file_systems m.file_system)

-- the snapshot of this identity that the file system of this name has, or none (On-Disk Specification, chapter 4: ds_creation_txg, ds_guid)
abbrev pub snap_in_system : Datasets → List ℕ → SnapId → Option Snap
snap_in_system t name id = find (λ u. same_id (id_of u) id) (snaps_at t.file_systems name)

-- a file system of a table, and a snapshot of it where one is given (profile)
pub record IsPlace (t : Datasets) (r : Row) (u : Option Snap) : Type 0 where
  pub row : r ≡ row_in t.file_systems (r.name, r.system)
  pub at : get t.file_systems r.name ≡ Some r.system
  pub snap : IfSome u (IsIn r.system.snaps)
