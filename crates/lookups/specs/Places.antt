-- Where the datasets of names stand in a table.
use Rattle.std.specs.Prelude.{◌≡◌, ℕ, List, Option, None, Some}
use Rattle.std.specs.Option.{option_map, option_map_or}
use Rattle.std.specs.FinMap.{get}
use Rattle.base.specs.Map.{Map}
use Rattle.base.specs.Surveys.{IsIn}
use Rattle.base.specs.declared.name.target.Target.{Target}
use Rattle.base.specs.declared.name.target.Target.TheVariants.{FileSystem as OfFileSystem, Snapshot as OfSnapshot, Bookmark as OfBookmark}
use Rattle.model.specs.World.{FileSystem, Snap, SnapId, Dataset, Live, Snapped, id_of}
use Rattle.world.specs.Tables.{Datasets}
use Rattle.datasets.specs.Rows.{Row}
use Rattle.datasets.specs.Clones.{row_in}
pub use Rattle.datasets.specs.Holders.{snapshot_place, IsPlace}

-- a dataset's file system, and the snapshot where it is one, by its name (zfs(8))
abbrev pub place_named : Datasets → Target → Option (Row × Option Snap)
place_named t (OfFileSystem name) = option_map (λ f. (row_in t.file_systems (name, f), None)) (get t.file_systems name)
place_named t (OfSnapshot m) = option_map (λ p. (p.0, Some p.1)) (snapshot_place t m)
place_named t (OfBookmark m) = None

-- the dataset that stands there: the snapshot, or else the live map (On-Disk Specification, chapter 4)
abbrev pub dataset_at : Row → Option Snap → Dataset
dataset_at r u = option_map_or (λ s. Snapped (id_of s)) u (Live r.name)

-- its map (On-Disk Specification, chapter 4)
abbrev pub map_at : Row → Option Snap → Map
map_at r u = option_map_or (λ s. s.map) u r.system.live

-- the file system of this name has the snapshot (profile)
pub record IsHome (t : Datasets) (name : List ℕ) (id : SnapId) : Type 0 where
  pub system : FileSystem
  pub at : get t.file_systems name ≡ Some system
  pub snap : Snap
  pub there : IsIn system.snaps snap
  pub is : id_of snap ≡ id
