-- Send (zfs-send(8), of a snapshot, with -i from a source).
use Rattle.std.specs.Prelude.{ℕ, Bool, true, false, not, ◌&&◌, List, [], ◌∷◌, ◌++◌, Option, None, Some, is_some, nat_lt}
use Rattle.std.specs.List.{filter, filter_map, find}
use Rattle.std.specs.Option.{option_map, option_map_or, option_and_then}
use Rattle.std.specs.FinMap.{get}
use Rattle.base.specs.Map.{Map}
use Rattle.base.specs.declared.refusal.Refusal.TheVariants.{NoDataset, NotSnapshot, NotAncestor}
use Rattle.base.specs.declared.name.target.Target.{Target}
use Rattle.base.specs.declared.name.target.Target.TheVariants.{Snapshot as OfSnapshot, Bookmark as OfBookmark}
use Rattle.base.specs.declared.name.member.Member.{Member}
use Rattle.base.specs.Names.{same_name}
use Rattle.stream.specs.Records.{records_since}
use Rattle.stream.specs.Spelling.{Sending, spell}
use Rattle.model.specs.declared.source.Source.{Source}
use Rattle.model.specs.declared.source.SourceName.{SourceName}
use Rattle.model.specs.declared.source.SourceName.TheVariants.{Snapshot as ASnapshot, Bookmark as ABookmark}
use Rattle.model.specs.declared.reply.Reply.{Reply}
use Rattle.model.specs.declared.reply.Reply.TheVariants.{Done, Stream as StreamIs}
use Rattle.model.specs.Sights.{Seen}
use Rattle.model.specs.World.{World, FileSystem, SnapId, Snapped, id_of, snap_at, older_of, file_system_at, map_of}
use Rattle.model.specs.Targets.{is_snapshot_name}
use Rattle.model.specs.Properties.{bookmarks_in_order}
use Rattle.model.specs.Rule.{Row, Rule, question}
use Rattle.model.specs.requests.Rollback.{placed}

-- ---- the sources

-- a snapshot or a bookmark with this guid and group as a source (zfs-send(8), -i)
abbrev pub source_at : SourceName → ℕ → ℕ → Source
source_at name guid group = record { name = name; guid = record { 0 = guid }; group = record { 0 = group } }

-- a snapshot as a source, by its identity (zfs-send(8), -i)
abbrev pub snapshot_source : World → SnapId → Option Source
snapshot_source w id =
    option_map (λ p. source_at (ASnapshot (record { file_system = p.0; component = p.1.name })) id.guid id.group) (snap_at w id)

-- a bookmark of a file system as a source, by what stands after the `#` (zfs-send(8), -i)
abbrev pub bookmark_source : List ℕ → FileSystem → List ℕ → Option Source
bookmark_source name f component =
    option_map (λ b. source_at (ABookmark (record { file_system = name; component = component })) b.guid b.group) (get f.bookmarks component)

-- the bookmarks of a file system of groups below this one, by group and then by name (zfs-send(8), -i; the order is profile)
abbrev pub bookmark_sources : List ℕ → FileSystem → ℕ → List Source
bookmark_sources name f group = filter (λ b. nat_lt b.group.0 group) (filter_map (bookmark_source name f) (bookmarks_in_order f))

-- What a send of a snapshot may start from: the older snapshots of its lineage, the newest first, and its own file system's bookmarks of
-- groups below its own (zfs-send(8), -i; that other file systems' bookmarks don't serve is profile)
unfoldable pub sources_of : World → SnapId → List Source
sources_of w id =
    filter_map (snapshot_source w) (older_of w (Snapped id))
    ++ option_map_or (λ p. option_map_or (λ f. bookmark_sources p.0 f id.group) (file_system_at w p.0) []) (snap_at w id) []

-- what a send of the snapshot of this identity sees (zfs-send(8))
unfoldable pub sight_of : World → SnapId → Seen
sight_of w id = record { map = map_of w (Snapped id); guid = id.guid; group = id.group; sources = sources_of w id }

-- ---- the source that a send names

-- the test of two names of snapshots, or of bookmarks (profile)
abbrev pub same_member : Member → Member → Bool
same_member a b = same_name a.file_system b.file_system && same_name a.component b.component

-- the test whether a source has a name (profile)
abbrev pub is_called : SourceName → Target → Bool
is_called (ASnapshot m) (OfSnapshot n) = same_member m n
is_called (ABookmark m) (OfBookmark n) = same_member m n
is_called _ _ = false

-- the guid and the group that a full send has in the place of a source's (zfs-send(8))
pub record Start : Type 0 where
  pub guid : ℕ
  pub group : ℕ

-- a full send starts from nothing (zfs-send(8))
abbrev pub no_source : Start
no_source = record { guid = 0; group = 0 }

-- where a send starts that names a source, or none; none where it is no source (zfs-send(8), -i)
unfoldable pub start_of : List Source → Option Target → Option Start
start_of sources None = Some no_source
start_of sources (Some name) = option_map (λ s. record { guid = s.guid.0; group = s.group.0 }) (find (λ s. is_called s.name name) sources)

-- ---- the stream

-- what a send from there says: the guids of both, and the records of all that is younger (zfs-send(8))
abbrev pub sending_from : Start → ℕ → Map → Sending
sending_from start target m = record { source = start.guid; target = target; records = records_since m start.group }

-- the bytes of a send (zfs-send(8); the bytes are profile)
unfoldable pub stream_of : Seen → Start → List ℕ
stream_of seen start = spell (sending_from start seen.guid seen.map)

-- ---- its refusals

-- the sight of the snapshot of a name that is there (zfs-send(8))
abbrev pub sight_named : World → Target → Option Seen
sight_named w target = option_map (λ p. sight_of w (id_of p.1)) (placed w target)

-- where a send of the snapshot of a name starts, none where there is no such snapshot or its source is none (zfs-send(8), -i)
abbrev pub start_named : World → Target → Option Target → Option Start
start_named w target from = option_and_then (λ seen. start_of seen.sources from) (sight_named w target)

-- zfs-send(8)
abbrev pub send_row : World → Target → Option Target → Row
send_row w target from =
    (not (is_snapshot_name target), NotSnapshot)
    ∷ (not (is_some (placed w target)), NoDataset)
    ∷ (not (is_some (start_named w target from)), NotAncestor)
    ∷ []

-- the stream of the snapshot from there (zfs-send(8))
abbrev pub send_reply : World → Target → Option Target → Reply
send_reply w target from =
    option_map_or (λ seen. option_map_or (λ start. StreamIs (stream_of seen start)) (start_of seen.sources from) Done) (sight_named w target) Done

-- zfs-send(8)
abbrev pub send_rule : Target → Option Target → Rule
send_rule target from = question (λ s. send_row s.now target from) (λ s. send_reply s.now target from) true
