-- Snapshots and bookmarks as sources.
use Rattle.std.specs.Prelude.{ℕ, List, map, reverse, nat_lt}
use Rattle.std.specs.List.{filter, filter_map}
use Rattle.model.specs.World.{Snap, SnapId, Snapped, older_of}
use Rattle.model.specs.declared.source.Source.{Source}
use Rattle.model.specs.declared.source.SourceName.TheVariants.{Snapshot as ASnapshot, Bookmark as ABookmark}
use Rattle.model.specs.requests.Send.{source_at, snapshot_source}
use Rattle.snapshots.specs.Marks.{Entry}
use Rattle.world.specs.Tables.{Datasets, world_of}

-- a snapshot of the file system of this name (zfs-send(8), -i)
abbrev pub snapshot_in : List ℕ → Snap → Source
snapshot_in name u = source_at (ASnapshot (record { file_system = name; component = u.name })) u.guid u.group

-- a bookmark of it (zfs-send(8), -i)
abbrev pub bookmark_in : List ℕ → Entry → Source
bookmark_in name e = source_at (ABookmark (record { file_system = name; component = e.0 })) e.1.guid e.1.group

-- those of its snapshots that are older than this group, the newest first (zfs-send(8), -i)
abbrev pub older_sources : List ℕ → ℕ → List Snap → List Source
older_sources name group us = map (snapshot_in name) (reverse (filter (λ u. nat_lt u.group group) us))

-- the older snapshots of the lineage of a snapshot, the newest first (zfs-send(8), -i)
abbrev pub lineage_sources : Datasets → SnapId → List Source
lineage_sources t id = filter_map (snapshot_source (world_of t)) (older_of (world_of t) (Snapped id))
