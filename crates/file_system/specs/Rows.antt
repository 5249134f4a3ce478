-- File systems by name.
use Rattle.std.specs.Prelude.{ℕ, List, [], ◌∷◌, ◌++◌, Option, length, refl}
use Rattle.std.specs.List.{flat_map}
use Rattle.std.specs.Option.{option_map_or}
use Rattle.std.specs.Coded.{Coded, code_by, coded×, coded_ℕ, coded_list}
use Rattle.std.specs.Arc.{arc_value}
use Rattle.std.specs.declared.sync.Arc.{Arc}
use Rattle.std.specs.declared.alloc.Global.{Global}
use Rattle.std.specs.FinMap.{FinMap, get, insert, entries}
use Rattle.std.specs.FinMap as finmap
use Rattle.base.specs.Map.{Map}
use Rattle.base.specs.Codes.{map_code}
use Rattle.base.specs.Names.{name_cmp}
use Rattle.model.specs.World.{FileSystem, Snap, SnapId, Bookmark, Limits, empty_file_system}
pub use Rattle.model.specs.Hierarchy.{FileSystems}
pub use Rattle.snapshots.specs.Snaps.{plain_snap}
use Rattle.model.specs.Codes.{file_system_code}

-- a name, the file system under it, and the map of its origin, which is the empty one where it has none (On-Disk Specification, chapter 4:
-- dd_clone_parent_obj)
pub record Row : Type 0 where
  pub name : List ℕ
  pub system : FileSystem
  pub below : Map

-- its code, that of its parts (profile)
abbrev pub row_code : Coded Row
row_code =
    code_by (List ℕ × (FileSystem × Map)) (coded× (coded_list coded_ℕ) (coded× file_system_code map_code))
    (λ r. (r.name, (r.system, r.below))) (λ p. record { name = p.0; system = p.1.0; below = p.1.1 }) (λ _. refl)

-- a file system of this live map, these snapshots, this origin, these limits and these bookmarks (On-Disk Specification, chapter 4;
-- zfsprops(7), zfs-bookmark(8))
abbrev pub system_of : Map → List Snap → Option SnapId → Limits → FinMap name_cmp Bookmark → FileSystem
system_of live snaps origin limits bookmarks = record { live = live; snaps = snaps; origin = origin; limits = limits; bookmarks = bookmarks }

-- a new file system under a name (zfs-create(8))
abbrev pub new_row : List ℕ → Row
new_row name = record { name = name; system = empty_file_system; below = finmap.empty }

-- a row under another name (zfs-rename(8))
abbrev pub with_name : Row → List ℕ → Row
with_name r name = record r { name = name }

-- a row whose file system is another (profile)
abbrev pub with_system : Row → FileSystem → Row
with_system r f = record r { system = f }

-- a name with the file system under it (On-Disk Specification, chapter 4)
abbrev pub Entry : Type 0
Entry = List ℕ × FileSystem

-- what a row tells of a map from names to file systems (profile)
abbrev pub entry_of : Row → Entry
entry_of r = (r.name, r.system)

-- the same of an owner of a row (profile)
abbrev pub entry_in : Arc Row Global → Entry
entry_in a = entry_of (arc_value a)

-- the code of the file systems (profile)
abbrev pub file_systems_code : Coded FileSystems
file_systems_code = finmap.code (coded_list coded_ℕ) file_system_code

-- the live map of the file system of this name, and the empty one where there is none (On-Disk Specification, chapter 4)
abbrev pub live_of : FileSystems → List ℕ → Map
live_of m name = option_map_or (λ f. f.live) (get m name) finmap.empty

-- the snapshots of the file system of this name, and none where there is none (On-Disk Specification, chapter 4)
abbrev pub snaps_at : FileSystems → List ℕ → List Snap
snaps_at m name = option_map_or (λ f. f.snaps) (get m name) []

-- the file system of this name with another live map, and all others as they are (On-Disk Specification, chapter 4)
abbrev pub with_live : FileSystems → List ℕ → Map → FileSystems
with_live m name live = option_map_or (λ f. insert m name (record f { live = live })) (get m name) m

-- a snapshot of its live map after its others (zfs-snapshot(8))
abbrev pub with_snap : FileSystem → List ℕ → ℕ → ℕ → FileSystem
with_snap f name guid group = record f { snaps = f.snaps ++ plain_snap name f.live guid group ∷ [] }

-- how many snapshots these file systems have (On-Disk Specification, chapter 4)
abbrev pub snap_count : FileSystems → ℕ
snap_count m = length (flat_map (λ e. e.1.snaps) (entries m))
