-- Worlds as finite maps from names to file systems, and their datasets in lineages.
use Rattle.std.specs.Prelude.{◌≡◌, ℕ, ◌<◌, ◌≤◌, ◌⊎◌, ◌↔◌, List, [], ◌∷◌, ◌++◌, Option, Some, None}
use Rattle.std.specs.Cmp.{nat_cmp_total}
use Rattle.std.specs.Ordering.{nat_cmp}
use Rattle.std.specs.Cmp.Lexicographic.{nat_list_cmp_total}
use Rattle.std.specs.FinSet.{empty, difference}
use Rattle.std.specs.FinMap.{slice_cmp-IsAntisymmetric, nat_cmp-IsAntisymmetric}
use Rattle.base.specs.Key.{key_cmp, key_cmp_total, key_cmp-IsAntisymmetric}
use Rattle.base.specs.Names.{name_cmp}
use Rattle.model.specs.World.{Live, Snapped}
pub use Rattle.model.specs.World.{SnapId, Dataset}
use Rattle.world.specs.Sets.{IsExactOrder, Has, IsSubset}
use Rattle.world.specs.Blocks.{Block, BlockSet, after}
use Rattle.world.specs.Lineage.{Row, Rows, Facts, IsUnion, spliced}

-- a name is its bytes (zfs(8))
abbrev pub Name : Type 0
Name = List ℕ

-- names by their bytes (On-Disk Specification, chapter 4)
pub name_order : IsExactOrder name_cmp
name_order = record { total = nat_list_cmp_total; exact = slice_cmp-IsAntisymmetric nat_cmp-IsAntisymmetric }

-- views by their numbers (On-Disk Specification, chapter 4)
pub view_order : IsExactOrder nat_cmp
view_order = record { total = nat_cmp_total; exact = nat_cmp-IsAntisymmetric }

-- keys by the first leaf that they cover, a parent before its children (On-Disk Specification, chapter 4)
pub key_order : IsExactOrder key_cmp
key_order = record { total = key_cmp_total; exact = key_cmp-IsAntisymmetric }

-- a snapshot's identity and its blocks (On-Disk Specification, chapter 4)
pub record SnapShape : Type 0 where
  pub id : SnapId
  pub blocks : BlockSet

-- the snapshots stand in order of their groups, the oldest first (On-Disk Specification, chapter 4)
pub record Shape : Type 0 where
  pub live : BlockSet
  pub snapshots : List SnapShape
  pub origin : Option SnapId

-- The file system of each name. A finite map is seen so through its look-ups, and a file system that has more fields through a function to these (On-Disk Specification, chapter 4)
abbrev pub Shapes : Type 0
Shapes = Name → Option Shape

-- what stands before a dataset: its name, group and blocks (On-Disk Specification, chapter 4)
pub record Before : Type 0 where
  pub prev : Option Dataset
  pub base : ℕ
  pub below : BlockSet

-- there is nothing before it (On-Disk Specification, chapter 4)
abbrev pub nothing_before : Before
nothing_before = record { prev = None; base = 0; below = empty }

-- what stands before the dataset that comes after a snapshot (On-Disk Specification, chapter 4)
abbrev pub before_next : SnapShape → Before
before_next s = record { prev = Some (Snapped s.id); base = s.id.group; below = s.blocks }

-- what stands before the dataset that comes after the snapshots (On-Disk Specification, chapter 4)
abbrev pub before_live : Before → List SnapShape → Before
before_live q [] = q
before_live q (s ∷ ss) = before_live (before_next s) ss

-- a dataset of a group with these blocks, after what stands before it (On-Disk Specification, chapter 4)
abbrev pub row : ℕ → Before → BlockSet → Row Dataset
row g q s = record { blocks = s; dead = difference q.below s; group = g; prev = q.prev; base = q.base; below = q.below }

-- the snapshot is one of the list's (On-Disk Specification, chapter 4)
abbrev pub IsAmong : List SnapShape → SnapShape → Type 0
IsAmong [] s = ⊥
IsAmong (t ∷ ts) s = (s ≡ t) ⊎ IsAmong ts s

-- a file system has the snapshot (On-Disk Specification, chapter 4)
abbrev pub HasSnapshot : Shapes → SnapId → SnapShape → Type 0
HasSnapshot m id s = (name : Name) × (f : Shape) × (m name ≡ Some f) × IsAmong f.snapshots s × (s.id ≡ id)

-- what stands before the oldest dataset of a file system (On-Disk Specification, chapter 4)
abbrev pub Starts : Shapes → Option SnapId → Before → Type 0
Starts m None q = q ≡ nothing_before
Starts m (Some id) q = (s : SnapShape) × HasSnapshot m id s × (q ≡ before_next s)

-- the row is of one of the snapshots (On-Disk Specification, chapter 4)
abbrev pub IsSnapRow : Before → List SnapShape → Dataset → Row Dataset → Type 0
IsSnapRow q [] d n = ⊥
IsSnapRow q (s ∷ ss) d n = ((d ≡ Snapped s.id) × (n ≡ row s.id.group q s.blocks)) ⊎ IsSnapRow (before_next s) ss d n

-- the rows of a file system from some snapshots on, its live map last (On-Disk Specification, chapter 4)
abbrev pub IsTail : ℕ → Name → BlockSet → Before → List SnapShape → Dataset → Row Dataset → Type 0
IsTail g name live q [] d n = (d ≡ Live name) × (n ≡ row g q live)
IsTail g name live q (s ∷ ss) d n = ((d ≡ Snapped s.id) × (n ≡ row s.id.group q s.blocks)) ⊎ IsTail g name live (before_next s) ss d n

-- the row is of a dataset of the file system (On-Disk Specification, chapter 4)
abbrev pub IsRow : ℕ → Name → Shape → Before → Dataset → Row Dataset → Type 0
IsRow g name f q d n = IsTail g name f.live q f.snapshots d n

-- the datasets, each with what its lineage says of the one before it (On-Disk Specification, chapter 4)
abbrev pub lineages : Shapes → ℕ → Rows Dataset
lineages m g d n = (name : Name) × (f : Shape) × (q : Before) × (m name ≡ Some f) × Starts m f.origin q × IsRow g name f q d n

-- promote of the clone c, whose origin is the snapshot s of the file system g (On-Disk Specification, chapter 4)
pub record Promotes (old new : Shapes) (c g : Name) : Type 0 where
  pub clone : Shape
  pub owner : Shape
  pub older : List SnapShape
  pub origin : SnapShape
  pub newer : List SnapShape
  pub other : ¬ (c ≡ g)
  pub clone_at : old c ≡ Some clone
  pub owner_at : old g ≡ Some owner
  pub origin_is : clone.origin ≡ Some origin.id
  pub owned : owner.snapshots ≡ older ++ origin ∷ newer
  pub clone_new : new c ≡ Some (record { live = clone.live; snapshots = older ++ origin ∷ clone.snapshots; origin = owner.origin })
  pub owner_new : new g ≡ Some (record { live = owner.live; snapshots = newer; origin = Some origin.id })
  pub others : (name : Name) → ¬ (name ≡ c) → ¬ (name ≡ g) → new name ≡ old name

-- one snapshot to an id (On-Disk Specification, chapter 4)
abbrev pub IsOneToAnId : Shapes → Type 0
IsOneToAnId m = (id : SnapId) (s t : SnapShape) → HasSnapshot m id s → HasSnapshot m id t → s ≡ t

-- each origin is there (On-Disk Specification, chapter 4)
abbrev pub IsClosed : Shapes → Type 0
IsClosed m = (name : Name) (f : Shape) → m name ≡ Some f → (q : Before) × Starts m f.origin q

-- promote changes what stands before no dataset, and no blocks (On-Disk Specification, chapter 4)
abbrev pub PromoteKeepsLineages : Type 0
PromoteKeepsLineages = (old new : Shapes) (c g : Name) → Promotes old new c g → IsOneToAnId old → IsClosed old
    → (h : ℕ) (d : Dataset) (n : Row Dataset) → lineages old h d n ↔ lineages new h d n

-- a snapshot's id stands in one file system (On-Disk Specification, chapter 4)
abbrev pub IsPlaced : Shapes → Type 0
IsPlaced m = (name other : Name) (f e : Shape) (s t : SnapShape) → m name ≡ Some f → m other ≡ Some e → IsAmong f.snapshots s → IsAmong e.snapshots t → s.id ≡ t.id → name ≡ other

-- what holds of a world at every state (On-Disk Specification, chapter 4)
pub record IsGood (m : Shapes) (g : ℕ) : Type 0 where
  pub facts : Facts Dataset (lineages m g)
  pub closed : IsClosed m
  pub placed : IsPlaced m

-- no file system has the snapshot for its origin (On-Disk Specification, chapter 4)
abbrev pub HasNoClone : Shapes → SnapId → Type 0
HasNoClone m id = (name : Name) (f : Shape) → m name ≡ Some f → f.origin ≡ Some id → ⊥

-- the snapshot s of a file system goes (On-Disk Specification, chapter 4)
pub record Drops (old new : Shapes) (name : Name) (s : SnapShape) : Type 0 where
  pub system : Shape
  pub older : List SnapShape
  pub newer : List SnapShape
  pub at : old name ≡ Some system
  pub snapshots_are : system.snapshots ≡ older ++ s ∷ newer
  pub no_clone : HasNoClone old s.id
  pub here : new name ≡ Some (record system { snapshots = older ++ newer })
  pub others : (other : Name) → ¬ (other ≡ name) → new other ≡ old other

-- the live map of a file system becomes another (On-Disk Specification, chapter 4)
pub record Writes (old new : Shapes) (name : Name) (live : BlockSet) : Type 0 where
  pub system : Shape
  pub at : old name ≡ Some system
  pub here : new name ≡ Some (record system { live = live })
  pub others : (other : Name) → ¬ (other ≡ name) → new other ≡ old other

-- a snapshot of a file system is taken (On-Disk Specification, chapter 4)
pub record Snaps (old new : Shapes) (name : Name) (id : SnapId) : Type 0 where
  pub system : Shape
  pub at : old name ≡ Some system
  pub fresh : (s : SnapShape) → HasSnapshot old id s → ⊥
  pub here : new name ≡ Some (record system { snapshots = system.snapshots ++ record { id = id; blocks = system.live } ∷ [] })
  pub others : (other : Name) → ¬ (other ≡ name) → new other ≡ old other

-- a file system is made, with no snapshot (On-Disk Specification, chapter 4)
pub record Makes (old new : Shapes) (name : Name) (live : BlockSet) (origin : Option SnapId) : Type 0 where
  pub absent : old name ≡ None
  pub here : new name ≡ Some (record { live = live; snapshots = []; origin = origin })
  pub others : (other : Name) → ¬ (other ≡ name) → new other ≡ old other

-- a file system with no snapshot goes (On-Disk Specification, chapter 4)
pub record RemovesFileSystem (old new : Shapes) (name : Name) : Type 0 where
  pub system : Shape
  pub at : old name ≡ Some system
  pub bare : system.snapshots ≡ []
  pub gone : new name ≡ None
  pub others : (other : Name) → ¬ (other ≡ name) → new other ≡ old other

-- removal of a snapshot keeps what holds at every state, and loses the entries of the next deadlist that were born after the group before the snapshot (On-Disk Specification, chapter 4)
abbrev pub RemoveIsJoin : Type 0
RemoveIsJoin = (old new : Shapes) (g : ℕ) (name : Name) (s : SnapShape) → IsGood old g → Drops old new name s →
    IsGood new g
    × ((d : Dataset) (k n : Row Dataset) → lineages old g (Snapped s.id) k → lineages old g d n → n.prev ≡ Some (Snapped s.id) →
    lineages new g d (spliced Dataset k n)
    × ((u u' : BlockSet) → IsUnion Dataset (lineages old g) u → IsUnion Dataset (lineages new g) u' → after k.base n.dead ≡ difference u u'))

-- A change of a live map keeps what holds at every state, where each block of the new map is one of the old map, one of what stands before, or born in the open group and in no dataset; and what it loses (On-Disk Specification, chapter 4)
abbrev pub WriteKeeps : Type 0
WriteKeeps = (old new : Shapes) (g : ℕ) (name : Name) (live : BlockSet) (q : Before) → IsGood old g → (p : Writes old new name live) → Starts old p.system.origin q
    → ((b : Block) → Has live b → Has p.system.live b ⊎ Has (before_live q p.system.snapshots).below b ⊎ ((b.birth ≡ g) × ((d : Dataset) (n : Row Dataset) → lineages old g d n → ¬ (Has n.blocks b))))
    → IsGood new g
    × ((u u' : BlockSet) → IsUnion Dataset (lineages old g) u → IsUnion Dataset (lineages new g) u'
    → difference (after (before_live q p.system.snapshots).base p.system.live) live ≡ difference u u')

-- the open group goes up (On-Disk Specification, chapter 4)
abbrev pub RaiseKeeps : Type 0
RaiseKeeps = (m : Shapes) (g h : ℕ) → IsGood m g → g ≤ h
    → IsGood m h × ((u u' : BlockSet) → IsUnion Dataset (lineages m g) u → IsUnion Dataset (lineages m h) u' → u ≡ u')

-- A snapshot is taken: its group is below the open group, which has gone up, and the live map was born by it (On-Disk Specification, chapter 4)
abbrev pub SnapKeeps : Type 0
SnapKeeps = (old new : Shapes) (h : ℕ) (name : Name) (id : SnapId) (q : Before) → IsGood old h → (p : Snaps old new name id) → Starts old p.system.origin q
    → ((b : Block) → Has p.system.live b → b.birth ≤ id.group) → (before_live q p.system.snapshots).base < id.group → id.group < h
    → IsGood new h × ((u u' : BlockSet) → IsUnion Dataset (lineages old h) u → IsUnion Dataset (lineages new h) u' → u' ≡ u)

-- a file system is made with blocks of its origin alone: none, or all (On-Disk Specification, chapter 4)
abbrev pub MakeKeeps : Type 0
MakeKeeps = (old new : Shapes) (g : ℕ) (name : Name) (live : BlockSet) (origin : Option SnapId) (q : Before) → IsGood old g → Makes old new name live origin → Starts old origin q
    → q.base < g → IsSubset live q.below → IsGood new g

-- a file system with no snapshot goes (On-Disk Specification, chapter 4)
abbrev pub RemoveKeeps : Type 0
RemoveKeeps = (old new : Shapes) (g : ℕ) (name : Name) (q : Before) → IsGood old g → (p : RemovesFileSystem old new name) → Starts old p.system.origin q
    → IsGood new g × ((u u' : BlockSet) → IsUnion Dataset (lineages old g) u → IsUnion Dataset (lineages new g) u' → after q.base p.system.live ≡ difference u u')

-- promote keeps what holds at every state (On-Disk Specification, chapter 4)
abbrev pub PromoteKeeps : Type 0
PromoteKeeps = (old new : Shapes) (c g : Name) (h : ℕ) → Promotes old new c g → IsGood old h
    → IsGood new h × ((d : Dataset) (n : Row Dataset) → lineages old h d n ↔ lineages new h d n)
