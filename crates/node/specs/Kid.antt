-- A part that may be absent.
use Rattle.std.specs.Prelude.{ℕ, ◌+◌, ◌≤◌, ◌-◌, List, [], ◌∷◌, Option, Some, None, replicate}
use Rattle.node.specs.Shape.{Forest, done, gap, grown, Part}
use Rattle.node.specs.Entries.{IsShaped, IsWell, cell_count}

-- a part of a level (profile)
abbrev pub IsSound : ℕ → Part → Type 0
IsSound l p = IsShaped l p.cell p.below × IsWell (l - 1) p.cell.birth p.below

-- it has its level's shape, under a parent born at g (profile)
abbrev pub IsKid : ℕ → ℕ → Option Part → Type 0
IsKid l g None = Unit {0}
IsKid l g (Some p) = (p.cell.birth ≤ g) × IsSound l p

-- how many cells it has (profile)
abbrev pub cells : Option Part → ℕ
cells None = 0
cells (Some p) = 1 + cell_count p.below

-- its birth (profile)
abbrev pub birth_of : Option Part → ℕ
birth_of None = 0
birth_of (Some p) = p.cell.birth

-- it has its level's shape, under whatever parent (profile)
abbrev pub IsSoundKid : ℕ → Option Part → Type 0
IsSoundKid l o = IsKid l (birth_of o) o

-- the places of a forest (profile)
abbrev pub places : Forest → List (Option Part)
places done = []
places (gap r) = None ∷ places r
places (grown c b r) = Some (record { cell = c; below = b }) ∷ places r

-- the sixteen places of a part that may be absent (profile)
abbrev pub places_of : Option Part → List (Option Part)
places_of None = replicate 16 None
places_of (Some p) = places p.below
