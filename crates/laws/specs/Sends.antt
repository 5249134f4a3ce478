-- What sends of datasets are good for, in every state of a pool and over every run.
use Rattle.std.specs.Prelude.{◌≡◌, ◌≤◌, ℕ, List, ◌∷◌, ◌++◌, length, Some}
use Rattle.std.specs.FinMap as finmap
use Rattle.base.specs.Map.{Map, IsTree, contents}
use Rattle.base.specs.declared.name.member.Member.{Member}
use Rattle.base.specs.declared.name.target.Target.TheVariants.{Snapshot as OfSnapshot}
use Rattle.model.specs.declared.request.Request.{Request}
use Rattle.model.specs.declared.request.Request.TheVariants.{Bookmark as ToBookmark}
use Rattle.model.specs.declared.reply.Reply.{Reply}
use Rattle.model.specs.declared.reply.Reply.TheVariants.{Done}
use Rattle.model.specs.World.{World, Snap, SnapId, Dataset, Live, Snapped, map_of, snap_named}
use Rattle.model.specs.Numbers.{IsNumbered}
use Rattle.model.specs.State.{State}
use Rattle.model.specs.Step.{Step}
use Rattle.model.specs.Run.{Run}
use Rattle.model.specs.requests.Bookmark.{bookmark_of_snap}
use Rattle.stream.specs.Records.{records_since, apply_records}
use Rattle.world.specs.Dead.{group_of}
use Rattle.world.specs.Worlds.{IsPoolState}
use Rattle.laws.specs.Lineages.{IsBefore, HasLineages, HasBirths}
use Rattle.laws.specs.Bookmarks.{IsSource, IsMarkedBy}
use Rattle.laws.specs.Runs.{InBoth, GoesBackWithin, IsNeverGiven}

-- a full send of any dataset gives what it holds (zfs-send(8))
abbrev pub FullSendOf : Type 0
FullSendOf = (s : State) (d : Dataset) → IsPoolState s → apply_records (records_since (map_of s.now d) 0) finmap.empty ≡ contents (map_of s.now d)

-- so it does in every state in which numbers and births are as they last in runs (zfs-send(8))
abbrev pub FullSendAfter : Type 0
FullSendAfter =
    (s : State) (d : Dataset) → IsNumbered s → HasBirths s.now → apply_records (records_since (map_of s.now d) 0) finmap.empty ≡ contents (map_of s.now d)

-- the dataset is the live map of the file system or stands before it, and its group is not below this one (On-Disk Specification, chapter 4)
pub record IsInLineage (w : World) (name : List ℕ) (group : ℕ) (d : Dataset) : Type 0 where
  pub places : ℕ
  pub before : IsBefore w places (Live name) d
  pub late : group ≤ group_of w d

-- the records since this group carry what the held map has to what the dataset has (zfs-send(8), -i)
abbrev pub Sends : World → ℕ → Map → Dataset → Type 0
Sends w group held d = apply_records (records_since (map_of w d) group) (contents held) ≡ contents (map_of w d)

-- from what serves as a source for a file system to each dataset of its lineage whose group is not below the source's (zfs-send(8), -i)
abbrev pub SourceSends : Type 0
SourceSends =
    (s : State) (name : List ℕ) (group n : ℕ) (held : Map) (d : Dataset) → IsNumbered s → IsSource s.now name group held → IsTree n held
    → IsInLineage s.now name group d → Sends s.now group held d

-- from each snapshot of the lineage, also one before the file system's origin (zfs-send(8), -i)
abbrev pub SnapshotSends : Type 0
SnapshotSends =
    (s : State) (name : List ℕ) (id : SnapId) (d : Dataset) → HasLineages s.now → IsNumbered s → IsInLineage s.now name 0 (Snapped id)
    → IsInLineage s.now name id.group d → Sends s.now id.group (map_of s.now (Snapped id)) d

-- From a bookmark: once it is made of a snapshot, after each run at whose end it is there, in which no Abandon goes back to before it and no rename
-- gives its file system's name to another, whatever has become of the snapshot and whatever numbers the steps choose, the records since its group
-- carry what the snapshot held to what each later dataset of the lineage holds (zfs-bookmark(8); zfs-send(8), -i with a bookmark)
abbrev pub BookmarkSends : Type 0
BookmarkSends =
    (s v u : State) (name mark : Member) (t : Snap) (qs : List Request) (rs : List Reply) (d : Dataset) → HasLineages s.now → IsNumbered s
    → snap_named s.now name ≡ Some t → Step s (ToBookmark (OfSnapshot name) mark) Done v → GoesBackWithin qs rs → IsNeverGiven mark.file_system qs rs → Run v qs rs u → IsMarkedBy mark (bookmark_of_snap t) u
    → IsInLineage u.now mark.file_system t.group d → Sends u.now t.group t.map d

-- So in a history: where it has a bookmark that was made, it was made of a snapshot that was there then, and if that bookmark is there at the
-- history's end, no Abandon went back to before it was made and no rename gave its file system's name to another, the records since its group carry
-- what the snapshot held to what each later dataset of the lineage holds (zfs-bookmark(8); zfs-send(8), -i with a bookmark)
abbrev pub HistorySends : Type 0
HistorySends =
    (s u : State) (qs more : List Request) (rs others : List Reply) (name mark : Member) → InBoth HasLineages s → IsNumbered s → length qs ≡ length rs
    → Run s (qs ++ ToBookmark (OfSnapshot name) mark ∷ more) (rs ++ Done ∷ others) u
    → (v : State) × (t : Snap) × Run s qs rs v × (snap_named v.now name ≡ Some t)
    × ((d : Dataset) → GoesBackWithin more others → IsNeverGiven mark.file_system more others → IsMarkedBy mark (bookmark_of_snap t) u → IsInLineage u.now mark.file_system t.group d → Sends u.now t.group t.map d)
