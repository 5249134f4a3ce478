-- What the names of a request stand for in a state (zfs(8); numbers are profile).
use Rattle.std.specs.Prelude.{ℕ, ◌+◌, ◌-◌, ◌^◌, Bool, true, false, ◌&&◌, List, Option, None, Some, is_some, nat_lt}
use Rattle.std.specs.Option.{option_map}
use Rattle.std.specs.FinMap.{contains_key}
use Rattle.base.specs.declared.name.target.Target.{Target}
use Rattle.base.specs.declared.name.target.Target.TheVariants.{FileSystem as OfFileSystem, Snapshot as OfSnapshot, Bookmark as OfBookmark}
use Rattle.base.specs.declared.name.member.Member.{Member}
pub use Rattle.base.specs.Names.{name_limit}
use Rattle.model.specs.World.{World, Dataset, Live, Snapped, id_of, snap_named, bookmark_named}
use Rattle.model.specs.State.{State}

-- ---- names

-- a file system of that name is there (zfs(8))
abbrev pub has_file_system : State → List ℕ → Bool
has_file_system s name = contains_key s.now.file_systems name

-- a snapshot of that name is there (zfs(8))
abbrev pub has_snap : State → Member → Bool
has_snap s m = is_some (snap_named s.now m)

-- a bookmark of that name is there (zfs-bookmark(8))
abbrev pub has_bookmark : State → Member → Bool
has_bookmark s m = is_some (bookmark_named s.now m)

-- a dataset: a file system or a snapshot (zfs(8))
abbrev pub has_dataset : State → Target → Bool
has_dataset s (OfFileSystem name) = has_file_system s name
has_dataset s (OfSnapshot m) = has_snap s m
has_dataset s (OfBookmark m) = false

-- anything with that name (zfs-get(8))
abbrev pub has_target : State → Target → Bool
has_target s (OfFileSystem name) = has_file_system s name
has_target s (OfSnapshot m) = has_snap s m
has_target s (OfBookmark m) = has_bookmark s m

-- the name is of a snapshot, there or not (zfs(8))
abbrev pub is_snapshot_name : Target → Bool
is_snapshot_name (OfFileSystem name) = false
is_snapshot_name (OfSnapshot m) = true
is_snapshot_name (OfBookmark m) = false

-- the dataset of a name (zfs(8))
abbrev pub dataset_of : State → Target → Option Dataset
dataset_of s (OfFileSystem name) = Some (Live name)
dataset_of s (OfSnapshot m) = option_map (λ t. Snapped (id_of t)) (snap_named s.now m)
dataset_of s (OfBookmark m) = None

-- ---- objects and blocks

-- an object's number (profile)
abbrev pub is_object : ℕ → Bool
is_object object = nat_lt object 256

-- the number of a block of an object (profile)
abbrev pub is_block : ℕ → ℕ → Bool
is_block object block = is_object object && nat_lt block 4096

-- ---- groups

-- the last group, and the last of any other numbers (profile)
abbrev pub number_limit : ℕ
number_limit = 2 ^ 63 - 1

-- the open group is the last one (profile)
abbrev pub has_no_next_group : World → Bool
has_no_next_group w = nat_lt number_limit (w.group + 1)

-- ---- counts

-- the last number of a snapshot's guid that a pool makes (profile)
abbrev pub guid_limit : ℕ
guid_limit = 4294967295

-- the most snapshots of a pool (profile)
abbrev pub snap_limit : ℕ
snap_limit = 65536
