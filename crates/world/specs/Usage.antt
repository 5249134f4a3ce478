-- The space that file systems use, over their rows.
use Rattle.std.specs.Prelude.{◌≡◌, ℕ, ◌+◌, ◌⊎◌, List, [], ◌∷◌, ◌++◌, Some}
use Rattle.std.specs.FinSet.{empty, difference, union, len}
use Rattle.world.specs.Blocks.{BlockSet, after}
use Rattle.world.specs.Lineage.{Row, IsUnion, Outside}
use Rattle.world.specs.Space.{Stretch, datasets, used_by_dataset, used_by_snapshots, used_by_all, dead_upto, dead_after, dead_in_all, IsOneOf}
use Rattle.world.specs.Shapes.{Name, Dataset, SnapShape, Shape, Shapes, Before, before_next, before_live, row, IsAmong, Starts, lineages, IsGood, HasNoClone}
use Rattle.model.specs.World.{Live, Snapped}

-- the rows of a file system from some snapshots on, the oldest first, its live map last (On-Disk Specification, chapter 4)
abbrev pub tail_rows : ℕ → Name → BlockSet → Before → List SnapShape → List (Dataset × Row Dataset)
tail_rows g name live q [] = (Live name, row g q live) ∷ []
tail_rows g name live q (s ∷ ss) = (Snapped s.id, row s.id.group q s.blocks) ∷ tail_rows g name live (before_next s) ss

-- the stretch of a file system (On-Disk Specification, chapter 4)
abbrev pub stretch_of : ℕ → Name → Shape → Before → Stretch Dataset
stretch_of g name f q = record { group = q.base; origin = q.below; rows = tail_rows g name f.live q f.snapshots }

-- the file systems of a list, with their names (profile)
abbrev pub IsEntry : {K X : Type 0} → List (K × X) → K → X → Type 0
IsEntry [] k v = ⊥
IsEntry (e ∷ es) k v = ((k ≡ e.0) × (v ≡ e.1)) ⊎ IsEntry es k v

-- no name stands twice (profile)
abbrev pub AreApart : {K X : Type 0} → List (K × X) → Type 0
AreApart [] = Unit {0}
AreApart {K} {X} (e ∷ es) = ((k : K) (v : X) → IsEntry es k v → ¬ (k ≡ e.0)) × AreApart es

-- the list has the file systems of the world, each once (On-Disk Specification, chapter 4)
pub record IsListing (m : Shapes) (es : List (Name × Shape)) : Type 0 where
  pub complete : (name : Name) (f : Shape) → m name ≡ Some f → IsEntry es name f
  pub right : (name : Name) (f : Shape) → IsEntry es name f → m name ≡ Some f
  pub apart : AreApart es

-- the stretches of the file systems of a list (On-Disk Specification, chapter 4)
abbrev pub AreOf : Shapes → ℕ → List (Name × Shape) → List (Stretch Dataset) → Type 0
AreOf m g [] [] = Unit {0}
AreOf m g [] (x ∷ xs) = ⊥
AreOf m g (e ∷ es) [] = ⊥
AreOf m g (e ∷ es) (x ∷ xs) = ((q : Before) × Starts m e.1.origin q × (x ≡ stretch_of g e.0 e.1 q)) × AreOf m g es xs

-- the sum over all file systems of usedbydataset and usedbysnapshots is the number of blocks that datasets have (On-Disk Specification, chapter 4)
abbrev pub TotalUsed : Type 0
TotalUsed = (m : Shapes) (g : ℕ) (es : List (Name × Shape)) (xs : List (Stretch Dataset)) (u : BlockSet) → IsGood m g → IsListing m es → AreOf m g es xs → IsUnion Dataset (lineages m g) u → used_by_all xs ≡ len u

-- the blocks of the snapshots of a list (On-Disk Specification, chapter 4)
abbrev pub snapshot_blocks : List SnapShape → BlockSet
snapshot_blocks [] = empty
snapshot_blocks (s ∷ ss) = union s.blocks (snapshot_blocks ss)

-- The properties of a file system, as the sets of the table and as counts of deadlists. q is what stands before its oldest dataset: its origin, or nothing (On-Disk Specification, chapter 4)
abbrev pub UsedBy : Type 0
UsedBy = (m : Shapes) (g : ℕ) (name : Name) (f : Shape) (q : Before) → IsGood m g → m name ≡ Some f → Starts m f.origin q
    → (used_by_dataset (stretch_of g name f q) ≡ len (difference f.live q.below))
    × (used_by_snapshots (stretch_of g name f q) ≡ len (difference (difference (snapshot_blocks f.snapshots) f.live) q.below))
    × (len (difference f.live q.below) + len q.below ≡ len f.live + dead_upto q.base (datasets (tail_rows g name f.live q f.snapshots)))
    × (len (difference (difference (snapshot_blocks f.snapshots) f.live) q.below) ≡ dead_after q.base (datasets (tail_rows g name f.live q f.snapshots)))

-- written of a dataset, from its own deadlist (On-Disk Specification, chapter 4)
abbrev pub Written : Type 0
Written = (m : Shapes) (g : ℕ) (d : Dataset) (n : Row Dataset) → IsGood m g → lineages m g d n → len (difference n.blocks n.below) + len n.below ≡ len n.blocks + len n.dead

-- used of a snapshot, from the deadlists of the datasets next after it; of one, from its deadlist alone (On-Disk Specification, chapter 4)
abbrev pub UsedOfSnapshot : Type 0
UsedOfSnapshot = (m : Shapes) (g : ℕ) (s : SnapShape) (k : Row Dataset) (xs : List (Row Dataset)) (others : BlockSet) → IsGood m g → lineages m g (Snapped s.id) k
    → ((e : Dataset) (n : Row Dataset) → lineages m g e n → n.prev ≡ Some (Snapped s.id) → IsOneOf xs n)
    → ((x : Row Dataset) → IsOneOf xs x → (e : Dataset) × lineages m g e x × (x.prev ≡ Some (Snapped s.id)))
    → IsUnion Dataset (Outside Dataset (lineages m g) (λ d. d ≡ Snapped s.id)) others
    → (difference k.blocks others ≡ after k.base (dead_in_all k.blocks xs))
    × ((n : Row Dataset) → xs ≡ n ∷ [] → difference k.blocks others ≡ after k.base n.dead)

-- the rows of a range of snapshots, and the one after it (On-Disk Specification, chapter 4)
abbrev pub up_to_next : ℕ → Name → BlockSet → Before → List SnapShape → List SnapShape → List (Row Dataset)
up_to_next g name live q [] [] = row g q live ∷ []
up_to_next g name live q [] (s ∷ ss) = row s.id.group q s.blocks ∷ []
up_to_next g name live q (s ∷ ss) newer = row s.id.group q s.blocks ∷ up_to_next g name live (before_next s) ss newer

-- the snapshots of a range (On-Disk Specification, chapter 4)
abbrev pub IsInRange : List SnapShape → Dataset → Type 0
IsInRange ss d = (s : SnapShape) × IsAmong ss s × (d ≡ Snapped s.id)

-- would free: the snapshots of a range of one file system go, and none of them has a clone (On-Disk Specification, chapter 4)
abbrev pub WouldFree : Type 0
WouldFree = (m : Shapes) (g : ℕ) (name : Name) (f : Shape) (q : Before) (older range newer : List SnapShape) (u u' : BlockSet)
    → IsGood m g → m name ≡ Some f → Starts m f.origin q → f.snapshots ≡ older ++ (range ++ newer)
    → ((t : SnapShape) → IsAmong range t → HasNoClone m t.id)
    → IsUnion Dataset (lineages m g) u → IsUnion Dataset (Outside Dataset (lineages m g) (IsInRange range)) u'
    → len (difference u u') ≡ dead_after (before_live q older).base (up_to_next g name f.live (before_live q older) range newer)
