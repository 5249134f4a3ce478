-- The bookmarks of a file system.
use Rattle.std.specs.Prelude.{ℕ, Bool, List, map, nat_lt, nat_le}
use Rattle.std.specs.List.{filter, list_any}
use Rattle.std.specs.Arc.{arc_value}
use Rattle.std.specs.Coded.{Coded, coded_ℕ, coded_list}
use Rattle.std.specs.declared.alloc.Global.{Global}
use Rattle.std.specs.declared.sync.Arc.{Arc}
use Rattle.std.specs.FinMap as finmap
use Rattle.std.specs.FinMap.{FinMap, entries, values, from_entries}
use Rattle.base.specs.Names.{name_cmp}
use Rattle.model.specs.declared.snapshot_id.SnapshotId.{SnapshotId}
use Rattle.model.specs.Codes.{bookmark_code}
use Rattle.model.specs.Properties.{bookmark_cmp}
pub use Rattle.model.specs.requests.Bookmark.{mark_limit, has_all_bookmarks}
use Rattle.model.specs.World.{Bookmark, FileSystem, empty_file_system}
use Rattle.snapshots.specs.declared.bookmarks.mark.Mark.{Mark}

-- bookmarks by their names (zfs-bookmark(8))
abbrev pub Marks : Type 0
Marks = FinMap name_cmp Bookmark

-- a bookmark with its name (zfs-bookmark(8))
abbrev pub Entry : Type 0
Entry = List ℕ × Bookmark

-- the code of such a map (profile)
abbrev pub marks_code : Coded Marks
marks_code = finmap.code (coded_list coded_ℕ) bookmark_code

-- the bookmark of a snapshot: it keeps its guid and its creation group (zfs-bookmark(8))
abbrev pub bookmark_of : SnapshotId → Bookmark
bookmark_of i = record { guid = i.guid.0; group = i.group.0 }

-- a bookmark, with its name (zfs-bookmark(8))
abbrev pub entry_of : Mark → Entry
entry_of m = (m.name, bookmark_of m.snapshot)

-- that of an owned one (profile)
abbrev pub entry_in : Arc Mark Global → Entry
entry_in a = entry_of (arc_value a)

-- its name (zfs-bookmark(8))
abbrev pub name_in : Arc Mark Global → List ℕ
name_in a = (entry_in a).0

-- one more would be too many (profile)
abbrev pub is_full : Marks → Bool
is_full m = has_all_bookmarks m

-- there is one of a later group (zfs-rollback(8))
abbrev pub has_newer : Marks → ℕ → Bool
has_newer m group = list_any (λ b. nat_lt group b.group) (values m)

-- those of this group and earlier ones (zfs-rollback(8), -r)
abbrev pub without_newer : Marks → ℕ → Marks
without_newer m group = from_entries (filter (λ e. nat_le e.1.group group) (entries m))

-- ---- in order of their groups, and then of their names

-- what they are ordered by (profile)
abbrev pub order_key : Entry → ℕ × List ℕ
order_key e = (e.1.group, e.0)

-- a bookmark under that (profile)
abbrev pub keyed : Entry → (ℕ × List ℕ) × Entry
keyed e = (order_key e, e)

-- that of an owned one (profile)
abbrev pub keyed_in : Arc Mark Global → (ℕ × List ℕ) × Entry
keyed_in a = keyed (entry_in a)

-- some bookmarks in that order (profile)
abbrev pub in_order : List Entry → List Entry
in_order es = values (from_entries {R = bookmark_cmp} (map keyed es))

-- the bookmarks in that order (zfs-list(8); the order is profile)
abbrev pub marks_in_order : Marks → List Entry
marks_in_order m = in_order (entries m)

-- a file system that has these bookmarks and nothing else (profile)
abbrev pub alone : Marks → FileSystem
alone m = record empty_file_system { bookmarks = m }
