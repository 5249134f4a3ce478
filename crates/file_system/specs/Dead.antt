-- The dead lists of a file system's datasets.
use Rattle.std.specs.Prelude.{◌≡◌, ◌≤◌, ◌++◌, ℕ, List, [], ◌∷◌, Option, None, Some, map, filter, length, if◌then◌else◌}
use Rattle.std.specs.FinSet.{difference}
use Rattle.std.specs.Arc.{arc_value}
use Rattle.std.specs.Option.{option_map, option_map_or}
use Rattle.std.specs.List.Sorted.{IsPermutation}
use Rattle.base.specs.Map.{Map, Block, BlockSet, blocks}
use Rattle.base.specs.Surveys.{dead_block}
use Rattle.base.specs.declared.number.Dead.{Dead}
use Rattle.deadlist.specs.Bits.{search_steps}
use Rattle.deadlist.specs.Entries.{is_upto}
use Rattle.deadlist.specs.Held.{Held}
use Rattle.base.specs.Names.{same_name}
use Rattle.model.specs.World.{Snap}
use Rattle.model.specs.Sums.{size_without}
use Rattle.snapshots.specs.declared.kept.Kept.{Kept}
use Rattle.world.specs.Sets.{Has}
use Rattle.world.specs.Deadlists.{Lists}
use Rattle.zalloc.specs.declared.BlockState.{BlockState}
use Rattle.batch.specs.declared.update.Update.{Update}
use Rattle.tree.specs.Asking.{AllowsChange}
use Rattle.file_system.specs.Counts.{IsCounted}
use Rattle.file_system.specs.Origins.{map_below, blocks_below}
use Rattle.file_system.specs.Writes.{newest_group, young_after}
use Rattle.file_system.specs.declared.file_system.FileSystem.TheInside.{Inside}

-- the blocks of the newest of these snapshots, and these, of what stands below them, where there is none (On-Disk Specification, chapter 4:
-- ds_prev_snap_obj)
abbrev pub newest_blocks : BlockSet → List Snap → BlockSet
newest_blocks bs [] = bs
newest_blocks bs (t ∷ ts) = newest_blocks (blocks t.map) ts

-- of the first snapshot of this name, how many blocks it has that what stands before it hasn't, which is these blocks before the first
-- of the snapshots (zfsprops(7): written)
abbrev pub written_from : BlockSet → List Snap → List ℕ → Option ℕ
written_from bs [] name = None
written_from bs (t ∷ ts) name = if same_name t.name name then Some (size_without (blocks t.map) bs) else written_from (blocks t.map) ts name

-- the snapshots that are kept
abbrev pub snaps_in : List Kept → List Snap
snaps_in = map (λ k. k.snapshot)

-- a snapshot's blocks, and these where there is no snapshot
abbrev pub blocks_kept : BlockSet → Option Kept → BlockSet
blocks_kept bs None = bs
blocks_kept bs (Some k) = blocks k.snapshot.map

-- a snapshot's creation group, and this one where there is no snapshot
abbrev pub group_kept : ℕ → Option Kept → ℕ
group_kept base k = option_map_or (λ x. x.snapshot.group) k base

-- A dead list of a file system has one segment; of its entries a sum looks at no more than the square of the logarithm, or about that, and
-- at those that wait, which are few (profile)
pub record IsPlain (h : Held) : Type 0 where
  pub uncut : h.cuts ≡ []
  pub searched : h.steps ≤ search_steps (length h.entries)
  pub few : h.waiting ≤ 126

-- a snapshot's dead list has what stands before it, these blocks, and it hasn't, each block once; and what it has that these blocks lack is
-- counted (On-Disk Specification, chapter 4: ds_deadlist_obj; zfsprops(7): written)
pub record IsAccounted (bs : BlockSet) (k : Kept) : Type 0 where
  pub dead : Lists (map dead_block (arc_value k.dead).entries) (difference bs (blocks k.snapshot.map))
  pub plain : IsPlain (arc_value k.dead)
  pub written : k.written ≡ size_without (blocks k.snapshot.map) bs

-- so it is with each of these snapshots, of which the first stands above these blocks (On-Disk Specification, chapter 4)
abbrev pub AreAccounted : BlockSet → List Kept → Type 0
AreAccounted bs [] = Unit {0}
AreAccounted bs (k ∷ ks) = IsAccounted bs k × AreAccounted (blocks k.snapshot.map) ks

-- no dead list of these snapshots is cut (profile)
abbrev pub AreUncut : List Kept → Type 0
AreUncut [] = Unit {0}
AreUncut (k ∷ ks) = ((arc_value k.dead).cuts ≡ []) × AreUncut ks

-- What a file system keeps, above its origin: the dead lists of its snapshots, and that of its live map, each block once (On-Disk
-- Specification, chapter 4: ds_deadlist_obj); and two counts of blocks (zfsprops(7): usedbydataset, usedbysnapshots)
pub record IsKeeping (f : Inside) : Type 0 where
  pub accounted : AreAccounted (blocks_below (option_map arc_value f.origin)) (arc_value f.snapshots)
  pub dead :
      Lists (map dead_block (arc_value f.dead).entries)
      (difference (newest_blocks (blocks_below (option_map arc_value f.origin)) (snaps_in (arc_value f.snapshots))) (blocks f.live))
  pub plain : IsPlain (arc_value f.dead)
  pub counted : IsCounted (map_below (option_map arc_value f.origin)) (snaps_in (arc_value f.snapshots)) f.live f.counts

-- These snapshots stand below a map, and these blocks with this group below them: the newest, or else the blocks below, have none that
-- was born after their group, and have each block of the map that was born by then (On-Disk Specification, chapter 4: ds_prev_snap_txg)
pub record IsAbove (bs : BlockSet) (base : ℕ) (m : Map) (snaps : List Snap) : Type 0 where
  pub closed : (b : Block) → Has (newest_blocks bs snaps) b → b.birth ≤ newest_group base snaps
  pub kept : (b : Block) → Has (blocks m) b → b.birth ≤ newest_group base snaps → Has (newest_blocks bs snaps) b

-- these updates of a live map above these snapshots and what stands below them can be made in group g, where the last sync left group
-- `synced` open and the numbers have these states (profile)
pub record AllowsLive (bs : BlockSet) (base : ℕ) (m : Map) (snaps : List Snap) (us : List Update) (g synced : ℕ) (states : List BlockState) : Type 0 where
  pub asks : AllowsChange m us g (young_after base snaps synced) states
  pub above : IsAbove bs base m snaps

-- a dead list has gained those of these entries that were born by a group, in any order (profile)
abbrev pub HasGained : List Dead → List Dead → List Dead → ℕ → Type 0
HasGained old new released newest = IsPermutation (old ++ filter (is_upto newest) released) new
