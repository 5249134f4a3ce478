-- The deadlists, by the definitions.
use Rattle.std.specs.Prelude.{◌≡◌, ◌<◌, ◌≤◌, ◌↔◌, ℕ, List, [], ◌∷◌, Some}
use Rattle.std.specs.Option.{option_map_or}
use Rattle.std.specs.FinMap.{get}
use Rattle.std.specs.FinSet.{difference}
use Rattle.base.specs.Map.{Block, BlockSet, blocks}
use Rattle.base.specs.Surveys.{IsIn}
use Rattle.model.specs.World.{World, FileSystem, Snap, SnapId, Dataset, Live, Snapped, id_of, map_of, map_of_snap, previous_of}
use Rattle.world.specs.Sets.{Has}
use Rattle.world.specs.Worlds.{FileSystems}

-- the creation group of what stands before a dataset, and 0 where nothing does (On-Disk Specification, chapter 4: ds_prev_snap_txg)
unfoldable pub base_of : World → Dataset → ℕ
base_of w d = option_map_or (λ id. id.group) (previous_of w d) 0

-- the blocks of what stands before a dataset (On-Disk Specification, chapter 4)
unfoldable pub below_of : World → Dataset → BlockSet
below_of w d = blocks (map_of_snap w (previous_of w d))

-- the blocks that what stands before a dataset has and the dataset hasn't (On-Disk Specification, chapter 4: ds_deadlist_obj)
unfoldable pub dead_of : World → Dataset → BlockSet
dead_of w d = difference (below_of w d) (blocks (map_of w d))

-- a dataset that is there (On-Disk Specification, chapter 4)
abbrev pub IsThere : World → Dataset → Type 0
IsThere w (Live name) = (s : FileSystem) × (get w.file_systems name ≡ Some s)
IsThere w (Snapped id) = (name : List ℕ) × (s : FileSystem) × (t : Snap) × (get w.file_systems name ≡ Some s) × IsIn s.snaps t × (id_of t ≡ id)

-- its group: a snapshot's creation group, and a live map's the open one (On-Disk Specification, chapter 4: ds_creation_txg)
abbrev pub group_of : World → Dataset → ℕ
group_of w (Live name) = w.group
group_of w (Snapped id) = id.group

-- What holds of each dataset (On-Disk Specification, chapter 4; profile)
pub record IsInLine (w : World) (d : Dataset) : Type 0 where
  pub born : (b : Block) → Has (blocks (map_of w d)) b → b.birth ≤ group_of w d
  pub falls : base_of w d < group_of w d
  pub kept : (b : Block) → Has (blocks (map_of w d)) b → Has (below_of w d) b ↔ (b.birth ≤ base_of w d)
  pub open_group : (b : Block) → Has (blocks (map_of w d)) b → b.birth ≤ w.group

-- no file system is a clone of the snapshot (zfsprops(7): clones)
abbrev pub HasNoCloneIn : FileSystems → SnapId → Type 0
HasNoCloneIn ss id = (name : List ℕ) (s : FileSystem) → get ss name ≡ Some s → s.origin ≡ Some id → ⊥

-- what comes next in the file system after the snapshots before these (On-Disk Specification, chapter 4: ds_next_snap_obj)
abbrev pub next_in : List ℕ → List Snap → Dataset
next_in name [] = Live name
next_in name (t ∷ ts) = Snapped (id_of t)
