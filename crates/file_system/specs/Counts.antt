-- The counts of blocks that a file system keeps, and what they are made again from.
use Rattle.std.specs.Prelude.{◌≡◌, ◌≤◌, ◌<◌, ◌+◌, ℕ, List, [], ◌∷◌, map, length, filter}
use Rattle.base.specs.Map.{Map, Block, BlockSet, blocks}
use Rattle.base.specs.declared.number.Dead.{Dead}
use Rattle.deadlist.specs.Entries.{is_upto}
use Rattle.model.specs.World.{Snap, blocks_of_all}
use Rattle.model.specs.Sums.{size_without}
use Rattle.world.specs.Sets.{Has}
use Rattle.world.specs.Space.{AreBornBy}
use Rattle.file_system.specs.declared.counts.UsedBlocks.{UsedBlocks}
use Rattle.file_system.specs.declared.counts.Rest.{Rest}

-- how many blocks a live map has that the origin, of this map below it, hasn't (zfsprops(7): usedbydataset)
abbrev pub dataset_count : Map → Map → ℕ
dataset_count below live = size_without (blocks live) (blocks below)

-- how many blocks these snapshots have that neither the live map nor the origin has (zfsprops(7): usedbysnapshots)
abbrev pub snapshots_count : Map → List Snap → Map → ℕ
snapshots_count below snaps live = size_without (blocks_of_all (map (λ t. t.map) snaps)) (blocks_of_all (live ∷ below ∷ []))

-- these are the counts of these snapshots and this live map above their origin (zfsprops(7): usedbydataset, usedbysnapshots)
pub record IsCounted (below : Map) (snaps : List Snap) (live : Map) (c : UsedBlocks) : Type 0 where
  pub by_dataset : c.by_dataset ≡ dataset_count below live
  pub by_snapshots : c.by_snapshots ≡ snapshots_count below snaps live

-- each of these snapshots and then a live map stands after the one before it, the first after these blocks of this group: groups rise, no
-- snapshot has a block that was born after its group, and what was born by the group of the one before is in the one before (On-Disk
-- Specification, chapter 4: ds_prev_snap_txg)
abbrev pub AreInLine : BlockSet → ℕ → List Snap → Map → Type 0
AreInLine bs base [] live = (b : Block) → Has (blocks live) b → b.birth ≤ base → Has bs b
AreInLine bs base (t ∷ ts) live =
    (base < t.group) × AreBornBy t.group (blocks t.map) × ((b : Block) → Has (blocks t.map) b → b.birth ≤ base → Has bs b) × AreInLine (blocks t.map) t.group ts live

-- so they stand above the map of an origin of this group, which has no block that was born later (On-Disk Specification, chapter 4)
pub record AreLined (below : Map) (base : ℕ) (snaps : List Snap) (live : Map) : Type 0 where
  pub born : AreBornBy base (blocks below)
  pub line : AreInLine (blocks below) base snaps live

-- how many of these entries were born by a group (profile)
abbrev pub upto_count : ℕ → List Dead → ℕ
upto_count cut es = length (filter (is_upto cut) es)

-- What is left of the counts of a live map of so many blocks once these are let go, of which the origin has those born by its group, and
-- a snapshot those born later and by the newest group (profile)
pub record IsRest (c : UsedBlocks) (nodes : ℕ) (released : List Dead) (base newest : ℕ) (r : Rest) : Type 0 where
  pub shared : r.shared + (c.by_dataset + upto_count base released) ≡ nodes
  pub by_snapshots : r.by_snapshots + upto_count base released ≡ c.by_snapshots + upto_count newest released
