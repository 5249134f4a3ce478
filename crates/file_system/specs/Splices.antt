-- A snapshot gone from a file system, and its live map rolled back.
use Rattle.std.specs.Prelude.{◌≡◌, ◌==◌, ◌+◌, ◌<◌, ◌++◌, ℕ, not, List, [], ◌∷◌, Some, map, filter, take, length, slice_get, if◌then◌else◌}
use Rattle.std.specs.Arc.{arc_value}
use Rattle.std.specs.FinMap.{get, insert}
use Rattle.std.specs.FinSet.{empty, difference}
use Rattle.std.specs.Option.{option_map_or}
use Rattle.std.specs.List.Sorted.{IsPermutation}
use Rattle.base.specs.Map.{Map, BlockSet, blocks}
use Rattle.base.specs.Surveys.{IsIn, dead_block}
use Rattle.base.specs.declared.number.Dead.{Dead}
use Rattle.deadlist.specs.Entries.{is_after, is_upto}
use Rattle.model.specs.World.{Snap, FileSystem}
use Rattle.snapshots.specs.declared.kept.Kept.{Kept}
use Rattle.world.specs.Deadlists.{Lists}
use Rattle.world.specs.Worlds.{AreRising}
use Rattle.file_system.specs.Dead.{snaps_in, newest_blocks, IsAbove, IsAccounted, AreAccounted}
use Rattle.file_system.specs.Origins.{origin_group}
use Rattle.file_system.specs.Rows.{FileSystems}
use Rattle.file_system.specs.Writes.{newest_group}

-- the blocks of the first of these snapshots, and those of the live map where there is none (On-Disk Specification, chapter 4:
-- ds_next_snap_obj)
abbrev pub oldest_blocks : Map → List Snap → BlockSet
oldest_blocks live [] = blocks live
oldest_blocks live (t ∷ ts) = blocks t.map

-- What is lost where the snapshot of this group goes from these, which stand above these blocks and below a live map: its blocks that
-- neither what stands before it has nor what comes after it (zfs-destroy(8))
abbrev pub lost_from : BlockSet → List Snap → Map → ℕ → BlockSet
lost_from bs [] live group = empty
lost_from bs (t ∷ ts) live group = if t.group == group then difference (difference (blocks t.map) bs) (oldest_blocks live ts) else lost_from (blocks t.map) ts live group

-- the file system without the snapshot of this group (zfs-destroy(8))
abbrev pub without_group : FileSystem → ℕ → FileSystem
without_group f group = record f { snaps = filter (λ t. not (t.group == group)) f.snaps }

-- the file systems without the snapshot of this group of that one (zfs-destroy(8))
abbrev pub without_snap_of : FileSystems → List ℕ → ℕ → FileSystems
without_snap_of m name group = option_map_or (λ f. insert m name (without_group f group)) (get m name) m

-- each of these snapshots stands above those before it, and above these blocks with this group (On-Disk Specification, chapter 4:
-- ds_prev_snap_txg)
abbrev pub AreStacked : BlockSet → ℕ → List Snap → Type 0
AreStacked bs base snaps = (older newer : List Snap) (t : Snap) → snaps ≡ older ++ t ∷ newer → IsAbove bs base t.map older

-- The snapshots of a file system, whose origin has this map, stand in order of their groups, after that of the origin, each under a name
-- of its own, and each stands above those before it and the origin, as the live map does (On-Disk Specification, chapter 4:
-- ds_prev_snap_txg)
pub record AreAbove (below : Map) (f : FileSystem) : Type 0 where
  pub rising : AreRising (origin_group f.origin) f.snaps
  pub names : (t u : Snap) → IsIn f.snaps t → IsIn f.snaps u → t.name ≡ u.name → t ≡ u
  pub each : AreStacked (blocks below) (origin_group f.origin) f.snaps
  pub live : IsAbove (blocks below) (origin_group f.origin) f.live f.snaps

-- the blocks of what stands before place i among these snapshots, which is these where none of them does (On-Disk Specification, chapter
-- 4: ds_prev_snap_obj)
abbrev pub blocks_before : BlockSet → List Kept → ℕ → BlockSet
blocks_before bs ks i = newest_blocks bs (snaps_in (take i ks))

-- The dead list of what comes after the snapshot at a place, once that is gone, and what is lost with it: of the entries that it had, which
-- are next, those of blocks that were born by the group of what stands before join those of the snapshot, and the others are lost (profile)
pub record AreJoined (base : ℕ) (ks : List Kept) (i : ℕ) (next new lost : List Dead) : Type 0 where
  pub gone : Kept
  pub there : slice_get ks i ≡ Some gone
  pub joined : IsPermutation ((arc_value gone.dead).entries ++ filter (is_upto (newest_group base (snaps_in (take i ks)))) next) new
  pub rest : lost ≡ filter (is_after (newest_group base (snaps_in (take i ks)))) next

-- the snapshot at a place may go from these, which stand above these blocks with this group, and isn't the last (profile)
pub record CanJoin (bs : BlockSet) (base : ℕ) (ks : List Kept) (i : ℕ) : Type 0 where
  pub accounted : AreAccounted bs ks
  pub rising : AreRising base (snaps_in ks)
  pub each : AreStacked bs base (snaps_in ks)
  pub next : i + 1 < length ks

-- What is kept of the snapshot after the one at a place, once that is gone, and the blocks that are lost with it (zfs-destroy(8))
pub record IsNext (bs : BlockSet) (ks : List Kept) (i : ℕ) (next : Kept) (lost : List Dead) : Type 0 where
  pub gone : Kept
  pub there : slice_get ks i ≡ Some gone
  pub after : Kept
  pub after_is : slice_get ks (i + 1) ≡ Some after
  pub snapshot : next.snapshot ≡ after.snapshot
  pub accounted : IsAccounted (blocks_before bs ks i) next
  pub lost_is : Lists (map dead_block lost) (difference (difference (blocks gone.snapshot.map) (blocks_before bs ks i)) (blocks after.snapshot.map))
