-- A snapshot whose destroy is deferred (zfs-destroy(8), -d), that has other tags (zfs-hold(8), zfs-release(8)), or another name (zfs-rename(8)).
use Rattle.std.specs.Prelude.{◌≡◌, ◌==◌, ℕ, Bool, List, Some, true, false, map, slice_get, if◌then◌else◌}
use Rattle.std.specs.Arc.{arc_value}
use Rattle.std.specs.FinMap.{get, insert}
use Rattle.std.specs.Option.{option_map_or}
use Rattle.model.specs.World.{Snap, FileSystem}
use Rattle.snapshots.specs.declared.kept.Kept.{Kept}
use Rattle.file_system.specs.Rows.{FileSystems}
use Rattle.file_system.specs.declared.mark.SnapshotEdit.{SnapshotEdit}
use Rattle.file_system.specs.declared.mark.SnapshotEdit.TheVariants.{Defer, SetTags, SetName}

-- ---- any change of one snapshot

-- the snapshot changed, where it is the one of this group (profile)
abbrev pub edited_if : (Snap → Snap) → ℕ → Snap → Snap
edited_if change group t = if t.group == group then change t else t

-- the file system with its snapshot of this group changed (profile)
abbrev pub edited_at : (Snap → Snap) → FileSystem → ℕ → FileSystem
edited_at change f group = record f { snaps = map (edited_if change group) f.snaps }

-- the file systems, where it is that one's (profile)
abbrev pub edited_of : (Snap → Snap) → FileSystems → List ℕ → ℕ → FileSystems
edited_of change m name group = option_map_or (λ f. insert m name (edited_at change f group)) (get m name) m

-- what is kept of the snapshot at a place, with this change of the snapshot (profile)
pub record IsEdited (change : Snap → Snap) (ks : List Kept) (i : ℕ) (next : Kept) : Type 0 where
  pub now : Kept
  pub there : slice_get ks i ≡ Some now
  pub snapshot : next.snapshot ≡ change now.snapshot
  pub dead : arc_value next.dead ≡ arc_value now.dead
  pub written : next.written ≡ now.written

-- ---- a deferred destroy

-- the snapshot, which is to go once nothing needs it (zfs-destroy(8), -d)
abbrev pub with_deferred : Snap → Snap
with_deferred t = record t { deferred = true }

-- the file system whose snapshot of this group is to go once nothing needs it (zfs-destroy(8), -d)
abbrev pub deferred_at : FileSystem → ℕ → FileSystem
deferred_at f group = edited_at with_deferred f group

-- the file systems, where it is that one's (zfs-destroy(8), -d)
abbrev pub deferred_of : FileSystems → List ℕ → ℕ → FileSystems
deferred_of m name group = edited_of with_deferred m name group

-- ---- other tags

-- the snapshot with these tags (zfs-hold(8), zfs-release(8))
abbrev pub with_tags : List (List ℕ) → Snap → Snap
with_tags tags t = record t { tags = tags }

-- the file system whose snapshot of this group has these tags (zfs-hold(8), zfs-release(8))
abbrev pub tagged_at : FileSystem → ℕ → List (List ℕ) → FileSystem
tagged_at f group tags = edited_at (with_tags tags) f group

-- the file systems, where it is that one's (zfs-hold(8), zfs-release(8))
abbrev pub tagged_of : FileSystems → List ℕ → ℕ → List (List ℕ) → FileSystems
tagged_of m name group tags = edited_of (with_tags tags) m name group

-- ---- another name

-- the snapshot under this name (zfs-rename(8))
abbrev pub with_snap_name : List ℕ → Snap → Snap
with_snap_name name t = record t { name = name }

-- ---- which change an edit is

-- that of a deferred destroy, of other tags, or of another name (zfs-destroy(8), -d; zfs-hold(8), zfs-release(8); zfs-rename(8))
abbrev pub edit_of : SnapshotEdit → Snap → Snap
edit_of Defer = with_deferred
edit_of (SetTags tags) = with_tags (arc_value tags)
edit_of (SetName name) = with_snap_name name

-- it gives another name (zfs-rename(8))
abbrev pub is_rename : SnapshotEdit → Bool
is_rename (SetName name) = true
is_rename edit = false
