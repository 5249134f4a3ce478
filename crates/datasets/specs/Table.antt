-- What a table keeps.
use Rattle.std.specs.Prelude.{◌≡◌, ◌<◌, ℕ, List, Some}
use Rattle.std.specs.FinMap.{get}
use Rattle.base.specs.Surveys.{IsIn}
use Rattle.model.specs.World.{FileSystem, Snap, Bookmark, map_of}
use Rattle.world.specs.Worlds.{AreFileSystems, AreCellsOne}
use Rattle.world.specs.Tables.{Datasets, world_of}

-- over the maps of all datasets a number names one block (profile)
abbrev pub AreNumbersOne : Datasets → Type 0
AreNumbersOne t = AreCellsOne (map_of (world_of t))

-- What holds of a table between two steps: what holds of its file systems in the group that is open; and a number names one block
-- (profile)
pub record IsTable (t : Datasets) : Type 0 where
  pub systems : AreFileSystems t.file_systems t.group
  pub numbers : AreNumbersOne t

-- each bookmark is of a group that is closed (zfs-bookmark(8))
abbrev pub AreBookmarksClosed : Datasets → Type 0
AreBookmarksClosed t = (name at : List ℕ) (f : FileSystem) (b : Bookmark) → get t.file_systems name ≡ Some f → get f.bookmarks at ≡ Some b → b.group < t.group

-- and so is each snapshot (On-Disk Specification, chapter 4: ds_creation_txg)
abbrev pub AreSnapshotsClosed : Datasets → Type 0
AreSnapshotsClosed t = (name : List ℕ) (f : FileSystem) (u : Snap) → get t.file_systems name ≡ Some f → IsIn f.snaps u → u.group < t.group
