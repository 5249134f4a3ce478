-- File systems, snapshots and their lineage (On-Disk Specification, chapter 4).
use Rattle.std.specs.Prelude.{ℕ, zero, suc, Bool, false, ◌&&◌, ◌||◌, List, [], ◌∷◌, Option, None, Some, map, ◌==◌, nat_lt}
use Rattle.std.specs.List.{find, filter, flat_map, last_or}
use Rattle.std.specs.Option.{option_map, option_or, option_and_then, option_map_or}
use Rattle.std.specs.FinMap.{FinMap, get, entries, values, keys}
use Rattle.std.specs.FinMap as finmap
use Rattle.std.specs.FinSet as set
use Rattle.base.specs.declared.name.member.Member.{Member}
use Rattle.base.specs.Names.{name_cmp, same_name, parent_of, is_descendant}
use Rattle.base.specs.Map.{Map, BlockSet, blocks}

-- a snapshot's identity, which it keeps through a promote: its creation group and guid. It is one snapshot's, since a request
-- that makes snapshots closes its group, and its snapshots have different guids (On-Disk Specification, chapter 4:
-- ds_creation_txg, ds_guid)
pub record SnapId : Type 0 where
  pub group : ℕ
  pub guid : ℕ

-- the test of two identities (profile)
abbrev pub same_id : SnapId → SnapId → Bool
same_id a b = (a.group == b.group) && (a.guid == b.guid)

-- a snapshot: its name within the file system, its map, its tags in the order in which they were made, and whether its destroy
-- is deferred (On-Disk Specification, chapter 4; zfs-hold(8), zfs-destroy(8) -d)
pub record Snap : Type 0 where
  pub name : List ℕ
  pub map : Map
  pub guid : ℕ
  pub group : ℕ
  pub tags : List (List ℕ)
  pub deferred : Bool

-- a snapshot's identity (profile)
abbrev pub id_of : Snap → SnapId
id_of s = record { group = s.group; guid = s.guid }

-- a bookmark: its snapshot's guid and creation group (zfs-bookmark(8))
pub record Bookmark : Type 0 where
  pub guid : ℕ
  pub group : ℕ

-- in blocks, or none (zfsprops(7): quota, refquota, reservation, refreservation)
pub record Limits : Type 0 where
  pub quota : Option ℕ
  pub refquota : Option ℕ
  pub reservation : Option ℕ
  pub refreservation : Option ℕ

-- a new file system has none (zfsprops(7))
abbrev pub no_limits : Limits
no_limits = record { quota = None; refquota = None; reservation = None; refreservation = None }

-- a file system: its live map, its snapshots in order of creation group, its origin, limits and bookmarks (On-Disk
-- Specification, chapter 4)
pub record FileSystem : Type 0 where
  pub live : Map
  pub snaps : List Snap
  pub origin : Option SnapId
  pub limits : Limits
  pub bookmarks : FinMap name_cmp Bookmark

-- a new file system (zfs-create(8))
abbrev pub empty_file_system : FileSystem
empty_file_system = record { live = finmap.empty; snaps = []; origin = None; limits = no_limits; bookmarks = finmap.empty }

-- the file systems by name, the blocks that are still to be freed, and the open group (On-Disk Specification, chapter 4;
-- zpool-features(7): async_destroy; zpoolprops(7): freeing)
pub record World : Type 0 where
  pub file_systems : FinMap name_cmp FileSystem
  pub freeing : BlockSet
  pub group : ℕ

-- a file system by its name (zfs(8))
abbrev pub file_system_at : World → List ℕ → Option FileSystem
file_system_at w name = get w.file_systems name

-- a dataset: a file system's live map, or a snapshot (On-Disk Specification, chapter 4)
pub data Dataset : Type 0 where
  Live : List ℕ → Dataset
  Snapped : SnapId → Dataset

-- each snapshot with the name of its file system (On-Disk Specification, chapter 4)
abbrev pub snaps_of : World → List (List ℕ × Snap)
snaps_of w = flat_map (λ e. map (λ s. (e.0, s)) e.1.snaps) (entries w.file_systems)

-- a snapshot by its identity, with the name of its file system (On-Disk Specification, chapter 4)
abbrev pub snap_at : World → SnapId → Option (List ℕ × Snap)
snap_at w id = find (λ p. same_id (id_of p.1) id) (snaps_of w)

-- a snapshot by its name (zfs(8))
abbrev pub snap_named : World → Member → Option Snap
snap_named w m = option_and_then (λ s. find (λ t. same_name t.name m.component) s.snaps) (file_system_at w m.file_system)

-- a bookmark by its name (zfs-bookmark(8))
abbrev pub bookmark_named : World → Member → Option Bookmark
bookmark_named w m = option_and_then (λ s. get s.bookmarks m.component) (file_system_at w m.file_system)

-- a file system's snapshots that are older than this group (On-Disk Specification, chapter 4: ds_creation_txg)
abbrev pub snaps_before : FileSystem → ℕ → List Snap
snaps_before s group = filter (λ t. nat_lt t.group group) s.snaps

-- the newest of these snapshots of a file system, else its origin (On-Disk Specification, chapter 4: dd_clone_parent_obj)
abbrev pub newest_or_origin : FileSystem → List Snap → Option SnapId
newest_or_origin s snaps = option_or (option_map id_of (last_or None snaps)) s.origin

-- the newest snapshot of the dataset's file system that is older than the dataset, else the file system's origin, else none
-- (On-Disk Specification, chapter 4: ds_prev_snap_obj)
unfoldable pub previous_of : World → Dataset → Option SnapId
previous_of w (Live name) = option_and_then (λ s. newest_or_origin s s.snaps) (file_system_at w name)
previous_of w (Snapped id) =
    option_and_then (λ p. option_and_then (λ s. newest_or_origin s (snaps_before s id.group)) (file_system_at w p.0)) (snap_at w id)

-- a snapshot and those before it in its lineage, the newest first, and no more than so many (On-Disk Specification, chapter 4:
-- ds_prev_snap_obj)
abbrev pub chain : World → ℕ → Option SnapId → List SnapId
chain w zero s = []
chain w (suc most) None = []
chain w (suc most) (Some id) = id ∷ chain w most (previous_of w (Snapped id))

-- the snapshots before a dataset in its lineage, the newest first. Their groups fall from below the open group, so that they are fewer
-- than its number (On-Disk Specification, chapter 4: ds_prev_snap_obj)
unfoldable pub older_of : World → Dataset → List SnapId
older_of w d = chain w w.group (previous_of w d)

-- the map of a dataset that is there, and else the empty one (On-Disk Specification, chapter 4)
unfoldable pub map_of : World → Dataset → Map
map_of w (Live name) = option_map_or (λ s. s.live) (file_system_at w name) finmap.empty
map_of w (Snapped id) = option_map_or (λ p. p.1.map) (snap_at w id) finmap.empty

-- the map of a snapshot; none stands for the empty map (profile)
abbrev pub map_of_snap : World → Option SnapId → Map
map_of_snap w s = option_map_or (λ id. map_of w (Snapped id)) s finmap.empty

-- the live map and those of the snapshots (On-Disk Specification, chapter 4)
abbrev pub maps_of : FileSystem → List Map
maps_of s = s.live ∷ map (λ t. t.map) s.snaps

-- the blocks of some of the maps (profile)
abbrev pub blocks_of_all : List Map → BlockSet
blocks_of_all [] = set.empty
blocks_of_all (m ∷ ms) = set.union (blocks m) (blocks_of_all ms)

-- the blocks that a dataset has (zpoolprops(7): allocated)
unfoldable pub union_of : World → BlockSet
union_of w = blocks_of_all (flat_map maps_of (values w.file_systems))

-- the blocks that are reached: those that a dataset has or that are still to be freed (zpoolprops(7): allocated, freeing)
unfoldable pub reach_of : World → BlockSet
reach_of w = set.union (union_of w) w.freeing

-- the clones of a snapshot (zfsprops(7): clones)
abbrev pub clones_of : World → SnapId → List (List ℕ)
clones_of w id = map (λ e. e.0) (filter (λ e. option_map_or (same_id id) e.1.origin false) (entries w.file_systems))

-- the children of a file system (zfs(8))
abbrev pub children_of : World → List ℕ → List (List ℕ)
children_of w name = filter (λ child. option_map_or (same_name name) (parent_of child) false) (keys w.file_systems)

-- a file system, where it is there, and its descendants, in byte order (zfs-snapshot(8), zfs-destroy(8): -r)
abbrev pub family_of : World → List ℕ → List (List ℕ)
family_of w name = filter (λ n. same_name n name || is_descendant name n) (keys w.file_systems)
