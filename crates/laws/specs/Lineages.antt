-- What holds of a world's lineages between two steps, whatever numbers its blocks have.
use Rattle.std.specs.Prelude.{◌≡◌, ◌<◌, ◌≤◌, ℕ, zero, suc, List, Option, Some, IsTrue}
use Rattle.std.specs.Option.{option_map_or}
use Rattle.std.specs.FinMap.{get}
use Rattle.base.specs.declared.number.Key.{Key}
use Rattle.base.specs.Key.{is_at_or_below, parent}
use Rattle.base.specs.Map.{Map, Cell}
use Rattle.model.specs.World.{World, FileSystem, Snap, SnapId, Bookmark, Dataset, Snapped, id_of, map_of, previous_of}
use Rattle.world.specs.Dead.{IsThere}
use Rattle.world.specs.RunLaws.{HasSnap}
use Rattle.world.specs.Worlds.{AreRising}

-- e stands so many places before d in its lineage (On-Disk Specification, chapter 4: ds_prev_snap_obj)
abbrev pub IsBefore : World → ℕ → Dataset → Dataset → Type 0
IsBefore w zero d e = d ≡ e
IsBefore w (suc k) d e = (id : SnapId) × (previous_of w d ≡ Some id) × IsBefore w k (Snapped id) e

-- what the map has and was born by this group, the held one has at the same key, in the same block and with the same bytes, and below it both
-- are the same (zfs-send(8), -i; On-Disk Specification, chapters 2 and 3)
abbrev pub SharesUntil : ℕ → Map → Map → Type 0
SharesUntil group held m =
    (key below : Key) (c : Cell) → get m key ≡ Some c → c.birth ≤ group → IsTrue (is_at_or_below key below) → get held below ≡ get m below

-- the creation group of an origin, and 0 where there is none (On-Disk Specification, chapter 4: ds_creation_txg)
abbrev pub origin_group : Option SnapId → ℕ
origin_group origin = option_map_or (λ id. id.group) origin 0

-- What holds of snapshots, origins and bookmarks (On-Disk Specification, chapter 4; zfs-bookmark(8))
pub record IsOrdered (w : World) : Type 0 where
  -- an identity is one snapshot's, in one file system
  pub once : (name other : List ℕ) (t u : Snap) → HasSnap w name t → HasSnap w other u → id_of t ≡ id_of u → (name ≡ other) × (t ≡ u)
  -- the groups of snapshots and of bookmarks are closed
  pub closed : (name : List ℕ) (t : Snap) → HasSnap w name t → t.group < w.group
  pub marks : (name at : List ℕ) (f : FileSystem) (b : Bookmark) → get w.file_systems name ≡ Some f → get f.bookmarks at ≡ Some b → b.group < w.group
  -- groups rise along a file system's snapshots, from that of its origin on
  pub rising : (name : List ℕ) (f : FileSystem) → get w.file_systems name ≡ Some f → AreRising (origin_group f.origin) f.snaps
  -- each origin is there
  pub origins : (name : List ℕ) (f : FileSystem) (id : SnapId) → get w.file_systems name ≡ Some f → f.origin ≡ Some id → IsThere w (Snapped id)
  -- groups begin at 1
  pub begun : 0 < w.group

-- And of the maps along a lineage: what a dataset has that was born by the group of the one before, that one has, with all below it
-- (On-Disk Specification, chapters 2 and 4: birth, ds_prev_snap_txg)
pub record HasLineages (w : World) : Type 0 where
  pub order : IsOrdered w
  pub shares : (d : Dataset) (id : SnapId) → IsThere w d → previous_of w d ≡ Some id → SharesUntil id.group (map_of w (Snapped id)) (map_of w d)

-- ---- births

-- no block is older than one below it, since a changed block is written anew with all that point to it (On-Disk Specification, chapter 3)
abbrev pub AreBirthsRising : Map → Type 0
AreBirthsRising t = (k : Key) (c p : Cell) → get t k ≡ Some c → get t (parent k) ≡ Some p → c.birth ≤ p.birth

-- what holds of births: groups begin at 1, and none is later than the open one (On-Disk Specification, chapters 2 and 3)
pub record HasBirths (w : World) : Type 0 where
  pub born : (d : Dataset) (k : Key) (c : Cell) → get (map_of w d) k ≡ Some c → (0 < c.birth) × (c.birth ≤ w.group)
  pub rise : (d : Dataset) → AreBirthsRising (map_of w d)
