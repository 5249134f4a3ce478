-- What holds of every world, of the pair of the present and the last synced world, and of the pool's state.
use Rattle.std.specs.Prelude.{◌≡◌, ◌<◌, ◌≤◌, ◌⊎◌, ℕ, List, [], ◌∷◌, Some, IsSome, true, map}
use Rattle.std.specs.Option.{option_map}
use Rattle.std.specs.FinMap.{get}
use Rattle.std.specs.FinMap as finmap
use Rattle.std.specs.FinSet.{union}
use Rattle.base.specs.declared.number.Key.{Key}
use Rattle.base.specs.Names.{parent_of}
use Rattle.base.specs.Map.{Map, Cell, IsTree, blocks}
use Rattle.base.specs.Surveys.{IsIn}
pub use Rattle.model.specs.Hierarchy.{FileSystems}
use Rattle.model.specs.Hierarchy.{IsHierarchy}
use Rattle.model.specs.World.{World, FileSystem, maps_of, Snap, SnapId, Bookmark, Dataset, id_of, map_of, snap_at, union_of, reach_of}
use Rattle.model.specs.State.{State}
use Rattle.model.specs.Numbers.{IsOneBlock}
use Rattle.model.specs.Outcome.{is_needed}
use Rattle.world.specs.Sets.{Has, AreDisjoint}
use Rattle.world.specs.Blocks.{Block, BlockSet}
use Rattle.world.specs.Reach.{AreNumbersUnique}
use Rattle.world.specs.Waiting.{IsSince}
use Rattle.world.specs.Shapes.{Shape, SnapShape, Shapes, IsGood}

-- a snapshot's identity and blocks (profile)
abbrev pub snap_shape : Snap → SnapShape
snap_shape t = record { id = id_of t; blocks = blocks t.map }

-- what of a file system its lineage speaks of (profile)
abbrev pub shape_of : FileSystem → Shape
shape_of s = record { live = blocks s.live; snapshots = map snap_shape s.snaps; origin = s.origin }

-- the file systems of a world as their shapes (profile)
abbrev pub shapes : FileSystems → Shapes
shapes ss name = option_map shape_of (get ss name)

-- a name's parent, which is there (zfs(8))
pub record HasParent (ss : FileSystems) (name : List ℕ) : Type 0 where
  pub parent : List ℕ
  pub named : parent_of name ≡ Some parent
  pub there : IsSome (get ss parent)

-- the snapshots stand in order of their creation groups, which are above this one (On-Disk Specification, chapter 4:
-- ds_creation_txg)
abbrev pub AreRising : ℕ → List Snap → Type 0
AreRising g [] = Unit {0}
AreRising g (t ∷ ts) = (g < t.group) × AreRising t.group ts

-- What is local to each file system, where this group is open: names of snapshots are each one snapshot's, and bookmarks are of
-- groups that are closed (profile)
pub record IsTidy (g : ℕ) (s : FileSystem) : Type 0 where
  pub names : (t u : Snap) → IsIn s.snaps t → IsIn s.snaps u → t.name ≡ u.name → t ≡ u
  pub bookmarks : (at : List ℕ) (b : Bookmark) → get s.bookmarks at ≡ Some b → b.group < g

-- What holds of one world's file systems between two steps, where this group is open (profile)
pub record AreFileSystems (ss : FileSystems) (g : ℕ) : Type 0 where
  pub lines : IsGood (shapes ss) g
  pub hierarchy : IsHierarchy ss
  pub tidy : (name : List ℕ) (s : FileSystem) → get ss name ≡ Some s → IsTidy g s

-- What holds of a world in a pool of so many blocks (profile)
pub record IsWorld (size : ℕ) (w : World) : Type 0 where
  pub systems : AreFileSystems w.file_systems w.group
  pub trees : (d : Dataset) → IsTree size (map_of w d)
  pub freeing_apart : AreDisjoint (union_of w) w.freeing

-- each map of the later file systems is one of the earlier ones, or has nothing (profile)
abbrev pub AreMapsFrom : FileSystems → FileSystems → Type 0
AreMapsFrom ss later =
    (name : List ℕ) (s : FileSystem) (m : Map) → get later name ≡ Some s → IsIn (maps_of s) m
    → (m ≡ finmap.empty) ⊎ ((other : List ℕ) × (t : FileSystem) × (get ss other ≡ Some t) × IsIn (maps_of t) m)

-- two cells with one number are one (profile)
abbrev pub AreCellsOne : {D : Type 0} → (D → Map) → Type 0
AreCellsOne {D} maps =
    (d e : D) (j k : Key) (a b : Cell) → get (maps d) j ≡ Some a → get (maps e) k ≡ Some b → a.number ≡ b.number
    → IsOneBlock (maps d) (maps e) j k a b

-- What holds of the blocks that the present world reaches and those that the last synced one does, whose open groups are these, in
-- a pool of so many blocks (profile)
pub record AreReached (now last : BlockSet) (synced group size : ℕ) : Type 0 where
  pub unique : AreNumbersUnique (union now last)
  pub small : (b : Block) → Has (union now last) b → b.number < size
  pub since : IsSince last now synced group
  pub born : (b : Block) → Has now b → b.birth ≤ group

-- a dataset of the present world, or of the last synced one (profile)
pub data Place : Type 0 where
  InNow : Dataset → Place
  InLast : Dataset → Place

-- the maps of two worlds (profile)
abbrev pub maps_of_both : World → World → Place → Map
maps_of_both now last (InNow d) = map_of now d
maps_of_both now last (InLast d) = map_of last d

-- What holds between the present world and the last synced one, in a pool of so many blocks: over the maps of both a number names
-- one block, and so it does over what both reach (profile)
pub record ArePaired (size : ℕ) (now last : World) : Type 0 where
  pub cells : AreCellsOne (maps_of_both now last)
  pub reached : AreReached (reach_of now) (reach_of last) last.group now.group size

-- What holds of the pool's state between two steps (profile)
pub record IsPoolState (s : State) : Type 0 where
  pub now : IsWorld s.size s.now
  pub last : IsWorld s.size s.last
  pub pair : ArePaired s.size s.now s.last
  pub views : (v : ℕ) (id : SnapId) → get s.views v ≡ Some id → IsSome (snap_at s.now id)

-- no snapshot waits for a sweep: each whose destroy is deferred has a tag, an open view or a clone (zfs-destroy(8), -d)
abbrev pub IsSwept : State → Type 0
IsSwept s =
    (name : List ℕ) (x : FileSystem) (t : Snap) → get s.now.file_systems name ≡ Some x → IsIn x.snaps t → t.deferred ≡ true → is_needed s.now s.views t ≡ true
