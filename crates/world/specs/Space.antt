-- Stretches of a lineage, the oldest dataset first, and the counts that their deadlists give.
use Rattle.std.specs.Prelude.{◌≡◌, ℕ, ◌+◌, ◌≤◌, ◌⊎◌, List, [], ◌∷◌}
use Rattle.std.specs.FinSet.{empty, difference, union, intersection, len}
use Rattle.world.specs.Sets.{Has}
use Rattle.world.specs.Blocks.{Block, BlockSet, upto, after}
use Rattle.world.specs.Lineage.{Row, Rows, IsSound}

-- the births of a set are at most the group (On-Disk Specification, chapter 4)
abbrev pub AreBornBy : ℕ → BlockSet → Type 0
AreBornBy g s = (b : Block) → Has s b → b.birth ≤ g

module _ {D : Type 0} where
  -- each is next after the one before; the first is next after the one with this group and these blocks
  abbrev pub Follow : ℕ → BlockSet → List (Row D) → Type 0
  Follow g s [] = Unit {0}
  Follow g s (x ∷ xs) = (x.base ≡ g) × (x.below ≡ s) × IsSound D x × Follow x.group x.blocks xs

  -- the blocks of the newest
  abbrev pub newest : BlockSet → List (Row D) → BlockSet
  newest s [] = s
  newest s (x ∷ xs) = newest x.blocks xs

  abbrev pub blocks_of_all : List (Row D) → BlockSet
  blocks_of_all [] = empty
  blocks_of_all (x ∷ xs) = union x.blocks (blocks_of_all xs)

  -- how many entries of the deadlists are born by the cut, and after it
  abbrev pub dead_upto : ℕ → List (Row D) → ℕ
  dead_upto cut [] = 0
  dead_upto cut (x ∷ xs) = len (upto cut x.dead) + dead_upto cut xs

  abbrev pub dead_after : ℕ → List (Row D) → ℕ
  dead_after cut [] = 0
  dead_after cut (x ∷ xs) = len (after cut x.dead) + dead_after cut xs

  -- the blocks of the stretch that neither its newest nor the one before it has
  abbrev pub between : BlockSet → List (Row D) → BlockSet
  between s xs = difference (difference (blocks_of_all xs) (newest s xs)) s

  -- the entries that all the deadlists have
  abbrev pub dead_in_all : BlockSet → List (Row D) → BlockSet
  dead_in_all s [] = s
  dead_in_all s (x ∷ xs) = intersection x.dead (dead_in_all s xs)

  -- one of a list
  abbrev pub IsOneOf : List (Row D) → Row D → Type 0
  IsOneOf [] n = ⊥
  IsOneOf (x ∷ xs) n = (n ≡ x) ⊎ IsOneOf xs n

-- A file system as the stretch of its datasets after its origin, each with its name; 0 and the empty set stand for no origin (On-Disk Specification, chapter 4)
pub record Stretch (D : Type 0) : Type 0 where
  pub group : ℕ
  pub origin : BlockSet
  pub rows : List (D × Row D)

module _ {D : Type 0} where
  abbrev pub datasets : List (D × Row D) → List (Row D)
  datasets [] = []
  datasets (r ∷ rs) = r.1 ∷ datasets rs

  abbrev pub IsAt : List (D × Row D) → D → Row D → Type 0
  IsAt [] d n = ⊥
  IsAt (r ∷ rs) d n = ((d ≡ r.0) × (n ≡ r.1)) ⊎ IsAt rs d n

  abbrev pub used_by_dataset : Stretch D → ℕ
  used_by_dataset f = len (difference (newest f.origin (datasets f.rows)) f.origin)

  abbrev pub used_by_snapshots : Stretch D → ℕ
  used_by_snapshots f = len (between f.origin (datasets f.rows))

  abbrev pub used_by_all : List (Stretch D) → ℕ
  used_by_all [] = 0
  used_by_all (f ∷ fs) = (used_by_dataset f + used_by_snapshots f) + used_by_all fs

  -- a row of one of the stretches
  abbrev pub IsInOneStretch : List (Stretch D) → D → Row D → Type 0
  IsInOneStretch [] d n = ⊥
  IsInOneStretch (f ∷ fs) d n = IsAt f.rows d n ⊎ IsInOneStretch fs d n

  abbrev pub AreStretches : Rows D → List (Stretch D) → Type 0
  AreStretches w [] = Unit {0}
  AreStretches w (f ∷ fs) =
      Follow f.group f.origin (datasets f.rows)
      × AreBornBy f.group f.origin
      × ((d : D) (n : Row D) → IsAt f.rows d n → w d n)
      × ((d : D) (n m : Row D) → IsAt f.rows d n → IsInOneStretch fs d m → ⊥)
      × AreStretches w fs
