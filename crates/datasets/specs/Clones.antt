-- Origins among file systems by name; and clones of a table's snapshots, and their promotes.
use Rattle.std.specs.Prelude.{◌≡◌, ℕ, List, Option, Some, unwrap_or, MatchOption}
use Rattle.std.specs.List.{find, flat_map}
use Rattle.std.specs.Option.{option_map, option_and_then}
use Rattle.std.specs.FinMap.{get, entries}
use Rattle.std.specs.FinMap as finmap
use Rattle.base.specs.Map.{Map}
use Rattle.base.specs.Surveys.{IsIn}
use Rattle.model.specs.World.{FileSystem, Snap, SnapId, id_of, same_id}
use Rattle.file_system.specs.Rows.{FileSystems, Entry, Row}
use Rattle.model.specs.requests.Clone.{with_clone}
use Rattle.world.specs.Outcomes.{Promotion, after_promotion}
use Rattle.world.specs.Tables.{Datasets, world_of}
use Rattle.datasets.specs.declared.clones.CloneName as code

-- the snapshots of all file systems (On-Disk Specification, chapter 4)
abbrev pub all_snaps : FileSystems → List Snap
all_snaps m = flat_map (λ e. e.1.snaps) (entries m)

-- the snapshot of this identity among all, or none (On-Disk Specification, chapter 4)
abbrev pub snap_in : FileSystems → SnapId → Option Snap
snap_in m id = find (λ t. same_id (id_of t) id) (all_snaps m)

-- the map of the first of these snapshots that has this identity, or none (On-Disk Specification, chapter 4)
abbrev pub map_found : List Snap → SnapId → Option Map
map_found ts id = option_map (λ t. t.map) (find (λ t. same_id (id_of t) id) ts)

-- the map of this origin among these snapshots, and the empty one where there is none (On-Disk Specification, chapter 4:
-- ds_prev_snap_obj)
abbrev pub below_from : List Snap → Option SnapId → Map
below_from ts o = unwrap_or (option_and_then (map_found ts) o) finmap.empty

-- the same among the snapshots of all file systems (On-Disk Specification, chapter 4: ds_prev_snap_obj)
abbrev pub below_in : FileSystems → Option SnapId → Map
below_in m o = below_from (all_snaps m) o

-- the origin of the file system of this name, where it is a clone (zfsprops(7): origin)
abbrev pub origin_at : FileSystems → List ℕ → Option SnapId
origin_at m name = option_and_then (λ f. f.origin) (get m name)

-- its map (On-Disk Specification, chapter 4: ds_prev_snap_obj)
abbrev pub below_at : FileSystems → List ℕ → Map
below_at m name = below_in m (origin_at m name)

-- a name and a file system among these, with the map of its origin (On-Disk Specification, chapter 4)
abbrev pub row_in : FileSystems → Entry → Row
row_in m e = record { name = e.0; system = e.1; below = below_in m e.1.origin }

-- each identity is one snapshot's, of one file system (On-Disk Specification, chapter 4: ds_creation_txg, ds_guid)
abbrev pub AreOnce : FileSystems → Type 0
AreOnce m =
    (name other : List ℕ) (f g : FileSystem) (t u : Snap)
    → get m name ≡ Some f → get m other ≡ Some g → IsIn f.snaps t → IsIn g.snaps u → id_of t ≡ id_of u → (name ≡ other) × (t ≡ u)

-- a row stands above the map of its origin, which is one of these snapshots, or else above nothing (zfs-clone(8))
abbrev pub IsTied : List Snap → Row → Type 0
IsTied ts r = MatchOption r.system.origin (r.below ≡ finmap.empty) (λ id. map_found ts id ≡ Some r.below)

-- so it is with each of these rows, of which one has the origin (zfs-clone(8))
abbrev pub AreTied : List Row → Type 0
AreTied rows = (r : Row) → IsIn rows r → IsTied (flat_map (λ x. x.system.snaps) rows) r

-- a clone by its name and its origin, as the index of clones has it (zfsprops(7): origin, clones)
abbrev pub CloneName : Type 0
CloneName = code.CloneName

-- a clone of the snapshot of this identity more, under this name (zfs-clone(8))
abbrev pub with_clone_of : Datasets → SnapId → List ℕ → Datasets
with_clone_of t id name = record t { file_systems = (with_clone (world_of t) id name).file_systems }

-- the clone of this name and the file system of its origin after its promote (zfs-promote(8))
abbrev pub with_promoted : Datasets → List ℕ → Promotion → Datasets
with_promoted t name p = record t { file_systems = (after_promotion (world_of t) name p).file_systems }
