-- What a Send that isn't refused has sent.
use Rattle.std.specs.Prelude.{◌≡◌, ◌≢◌, ◌<◌, ℕ, suc, List, Option, None, Some}
use Rattle.std.specs.FinMap as finmap
use Rattle.base.specs.Map.{Contents, contents}
use Rattle.base.specs.declared.refusal.Refusal.{Refusal}
use Rattle.base.specs.declared.name.member.Member.{Member}
use Rattle.base.specs.declared.name.target.Target.{Target}
use Rattle.base.specs.declared.name.target.Target.TheVariants.{FileSystem as OfFileSystem, Snapshot as OfSnapshot, Bookmark as OfBookmark}
use Rattle.stream.specs.Records.{records_since, apply_records}
use Rattle.stream.specs.Spelling.{spell}
use Rattle.model.specs.declared.request.Request.{Request}
use Rattle.model.specs.declared.request.Request.TheVariants.{Bookmark as ToBookmark, Send as ToSend}
use Rattle.model.specs.declared.reply.Reply.{Reply}
use Rattle.model.specs.declared.reply.Reply.TheVariants.{Done, Refused, Stream as StreamIs}
use Rattle.model.specs.World.{World, Snap, Bookmark, Snapped, id_of, snap_named, bookmark_named}
use Rattle.model.specs.Numbers.{IsNumbered}
use Rattle.model.specs.State.{State}
use Rattle.model.specs.Step.{Step}
use Rattle.model.specs.Run.{Run}
use Rattle.model.specs.requests.Bookmark.{bookmark_of_snap}
use Rattle.model.specs.requests.Send.{Start, no_source, sending_from}
use Rattle.world.specs.RunLaws.{HasSnap}
use Rattle.laws.specs.Lineages.{IsBefore, HasLineages, HasBirths}
use Rattle.laws.specs.Bookmarks.{IsMarkedBy}
use Rattle.laws.specs.Runs.{GoesBackWithin, IsNeverGiven}

-- the records of a snapshot since this group carry what is held to what the snapshot holds (zfs-send(8), -i)
abbrev pub Carries : ℕ → Contents → Snap → Type 0
Carries group held t = apply_records (records_since t.map group) held ≡ contents t.map

-- A send of a snapshot starts at the snapshot of this name, which stands before it in its lineage, and carries what that one holds to what
-- it holds (zfs-send(8), -i)
pub record IsFromSnapshot (w : World) (t : Snap) (name : Member) (start : Start) : Type 0 where
  pub source : Snap
  pub there : HasSnap w name.file_system source
  pub named : source.name ≡ name.component
  pub start_is : start ≡ record { guid = source.guid; group = source.group }
  pub places : ℕ
  pub before : IsBefore w (suc places) (Snapped (id_of t)) (Snapped (id_of source))
  pub carries : Carries source.group (contents source.map) t

-- It starts at the bookmark of this name, which is its file system's, and of a lower group (zfs-send(8), -i; that no other file system's
-- serves is profile)
pub record IsFromBookmark (w : World) (file_system : List ℕ) (t : Snap) (name : Member) (start : Start) : Type 0 where
  pub mark : Bookmark
  pub named : bookmark_named w name ≡ Some mark
  pub start_is : start ≡ record { guid = mark.guid; group = mark.group }
  pub beside : name.file_system ≡ file_system
  pub before : mark.group < t.group

-- it starts at its source, or from nothing, where none is named; a file system is no source (zfs-send(8), -i)
abbrev pub IsFrom : World → List ℕ → Snap → Option Target → Start → Type 0
IsFrom w file_system t None start = (start ≡ no_source) × Carries 0 finmap.empty t
IsFrom w file_system t (Some (OfSnapshot name)) start = IsFromSnapshot w t name start
IsFrom w file_system t (Some (OfBookmark name)) start = IsFromBookmark w file_system t name start
IsFrom w file_system t (Some (OfFileSystem name)) start = ⊥

-- The snapshot of the name is sent from there: the reply is the stream that says so (zfs-send(8))
pub record IsAnswered (w : World) (target : Target) (from : Option Target) (reply : Reply) : Type 0 where
  pub name : Member
  pub target_is : target ≡ OfSnapshot name
  pub snap : Snap
  pub named : snap_named w name ≡ Some snap
  pub start : Start
  pub begins : IsFrom w name.file_system snap from start
  pub reply_is : reply ≡ StreamIs (spell (sending_from start snap.guid snap.map))

-- the reply is no refusal (profile)
abbrev pub IsNoRefusal : Reply → Type 0
IsNoRefusal reply = (why : Refusal) → reply ≢ Refused why

-- so is each Send that isn't refused (zfs-send(8))
abbrev pub SendsAreAnswered : Type 0
SendsAreAnswered =
    (s u : State) (target : Target) (from : Option Target) (reply : Reply) → HasLineages s.now → HasBirths s.now → IsNumbered s
    → Step s (ToSend target from) reply u → IsNoRefusal reply → IsAnswered s.now target from reply

-- A Send from a bookmark that isn't refused, once that was made of a snapshot, after each run at whose end the bookmark is there, in which no Abandon
-- goes back to before it and no rename gives its file system's name to another: the stream is the sent snapshot's since the other's group, and its
-- records carry what that one held to what the sent one has, whatever has become of it and whatever numbers the steps choose (zfs-bookmark(8);
-- zfs-send(8), -i with a bookmark)
abbrev pub BookmarkSendsAreAnswered : Type 0
BookmarkSendsAreAnswered =
    (s v u w : State) (name mark target : Member) (t : Snap) (qs : List Request) (rs : List Reply) (reply : Reply) → HasLineages s.now → IsNumbered s
    → snap_named s.now name ≡ Some t → Step s (ToBookmark (OfSnapshot name) mark) Done v → GoesBackWithin qs rs → IsNeverGiven mark.file_system qs rs → Run v qs rs u → IsMarkedBy mark (bookmark_of_snap t) u
    → Step u (ToSend (OfSnapshot target) (Some (OfBookmark mark))) reply w → IsNoRefusal reply
    → (x : Snap) × (snap_named u.now target ≡ Some x) × (reply ≡ StreamIs (spell (sending_from (record { guid = t.guid; group = t.group }) x.guid x.map))) × Carries t.group (contents t.map) x
