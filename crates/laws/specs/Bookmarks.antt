-- What a bookmark promises in every run: the map that its snapshot had serves as a source for each later dataset of the lineage.
use Rattle.std.specs.Prelude.{◌≡◌, ◌≤◌, ℕ, List, [], ◌∷◌, Some}
use Rattle.base.specs.Map.{Map}
use Rattle.base.specs.declared.name.member.Member.{Member}
use Rattle.base.specs.declared.name.target.Target.TheVariants.{Snapshot as OfSnapshot}
use Rattle.model.specs.declared.request.Request.{Request}
use Rattle.model.specs.declared.request.Request.TheVariants.{Bookmark as ToBookmark, Rename as ToRename}
use Rattle.model.specs.declared.reply.Reply.{Reply}
use Rattle.model.specs.declared.reply.Reply.TheVariants.{Done}
use Rattle.model.specs.World.{World, Snap, Bookmark, Dataset, Live, map_of, snap_named, bookmark_named}
use Rattle.model.specs.State.{State}
use Rattle.model.specs.Step.{Step}
use Rattle.model.specs.Run.{Run}
use Rattle.model.specs.requests.Bookmark.{bookmark_of_snap}
use Rattle.model.specs.requests.Rename.{renamed}
use Rattle.world.specs.Dead.{group_of}
use Rattle.laws.specs.Lineages.{IsBefore, SharesUntil, HasLineages}
use Rattle.laws.specs.Runs.{GoesBackWithin, IsNeverGiven}

-- What was held in this group serves as a source for a file system: it shares with its live map, and with each dataset before that whose
-- group is not below this one, what they have from this group and before (zfs-send(8), -i with a bookmark; On-Disk Specification, chapter 4)
abbrev pub IsSource : World → List ℕ → ℕ → Map → Type 0
IsSource w name group held = (k : ℕ) (d : Dataset) → IsBefore w k (Live name) d → group ≤ group_of w d → SharesUntil group held (map_of w d)

-- a state in which the bookmark stands (zfs-bookmark(8))
abbrev pub IsMarkedBy : Member → Bookmark → State → Type 0
IsMarkedBy mark b s = bookmark_named s.now mark ≡ Some b

-- a bookmark that is made of a snapshot has its guid and group, and what the snapshot has serves as a source for the file system
-- (zfs-bookmark(8); zfs-send(8), -i with a bookmark)
abbrev pub BookmarkMade : Type 0
BookmarkMade =
    (s u : State) (name mark : Member) (t : Snap) → HasLineages s.now → snap_named s.now name ≡ Some t
    → Step s (ToBookmark (OfSnapshot name) mark) Done u
    → IsMarkedBy mark (bookmark_of_snap t) u × IsSource u.now mark.file_system t.group t.map

-- a run of which this holds in each state, the first and the last too (profile)
abbrev pub IsRunWithin : (State → Type 0) → State → List Request → List Reply → State → Type 0
IsRunWithin Holds s [] [] u = Holds s × (s ≡ u)
IsRunWithin Holds s (q ∷ qs) (r ∷ rs) u = Holds s × ((t : State) × Step s q r t × IsRunWithin Holds t qs rs u)
IsRunWithin Holds s _ _ u = ⊥

-- What serves as a source in a bookmark's group serves so after each run in which the bookmark stands and no Abandon goes back to before it:
-- whatever is written, received, snapped, rolled back, cloned, promoted or destroyed meanwhile, its snapshot too, and whatever numbers the
-- steps choose (zfs-send(8), -i with a bookmark)
abbrev pub BookmarkStands : Type 0
BookmarkStands =
    (s u : State) (qs : List Request) (rs : List Reply) (mark : Member) (b : Bookmark) (held : Map)
    → HasLineages s.now → GoesBackWithin qs rs → IsRunWithin (IsMarkedBy mark b) s qs rs u → IsSource s.now mark.file_system b.group held
    → IsSource u.now mark.file_system b.group held

-- So does what a snapshot had, once a bookmark is made of it, after each such run at whose end the bookmark is there: also where it was
-- destroyed meanwhile and made again, which only that very snapshot allows. No rename of the run gives the bookmark's file system's name to
-- another (zfs-bookmark(8); zfs-send(8), -i with a bookmark)
abbrev pub BookmarkLasts : Type 0
BookmarkLasts =
    (s v u : State) (name mark : Member) (t : Snap) (qs : List Request) (rs : List Reply) → HasLineages s.now → snap_named s.now name ≡ Some t
    → Step s (ToBookmark (OfSnapshot name) mark) Done v → GoesBackWithin qs rs → IsNeverGiven mark.file_system qs rs → Run v qs rs u
    → IsMarkedBy mark (bookmark_of_snap t) u → IsSource u.now mark.file_system t.group t.map

-- A rename that is done carries a bookmark and what serves its file system as a source to the new name (zfs-rename(8))
abbrev pub RenamesCarry : Type 0
RenamesCarry =
    (s u : State) (from to : List ℕ) (mark : Member) (b : Bookmark) (held : Map) → HasLineages s.now → Step s (ToRename from to) Done u → IsMarkedBy mark b s
    → IsMarkedBy (record mark { file_system = renamed from to mark.file_system }) b u
    × (IsSource s.now mark.file_system b.group held → IsSource u.now (renamed from to mark.file_system) b.group held)
