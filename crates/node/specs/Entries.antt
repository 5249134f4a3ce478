-- The map that a tree stands for: from the present keys to their cells.
use Rattle.std.specs.Prelude.{◌≡◌, ℕ, zero, suc, ◌+◌, ◌-◌, ◌*◌, ◌/◌, ◌%◌, ◌^◌, ◌<◌, ◌≤◌, List, [], ◌∷◌, ◌++◌, Option, length}
use Rattle.std.specs.FinMap as finmap
use Rattle.std.specs.Option.{option_and_then}
use Rattle.base.specs.declared.number.Key.{Key}
use Rattle.base.specs.Map.{Cell, Map}
use Rattle.node.specs.Shape.{Forest, done, gap, grown, part_at, cell_below}

-- (profile)
abbrev pub key_at : ℕ → ℕ → Key
key_at l j = record { level = l; index = j }

-- the entries of places at the level l, of which the first has the index j (profile)
abbrev pub entries_from : ℕ → ℕ → Forest → List (Key × Cell)
entries_from l j done = []
entries_from l j (gap r) = entries_from l (j + 1) r
entries_from l j (grown c b r) = (key_at l j, c) ∷ (entries_from (l - 1) (16 * j) b ++ entries_from l (j + 1) r)

-- the map of the one place of the root (profile)
unfoldable pub map_of : Forest → Map
map_of f = finmap.from_sorted (entries_from 5 0 f)

-- how many places a forest has (profile)
abbrev pub width : Forest → ℕ
width done = 0
width (gap r) = 1 + width r
width (grown c b r) = 1 + width r

-- how many cells a forest has (profile)
abbrev pub cell_count : Forest → ℕ
cell_count done = 0
cell_count (gap r) = cell_count r
cell_count (grown c b r) = 1 + (cell_count b + cell_count r)

-- what a cell of a level has below it, and which bytes (profile)
abbrev pub IsShaped : ℕ → Cell → Forest → Type 0
IsShaped zero c b = (b ≡ done) × (length c.bytes ≡ 512)
IsShaped (suc l) c b = (width b ≡ 16) × (0 < cell_count b) × (c.bytes ≡ [])

-- a forest of places of a level under a parent born at g: no block is younger than the one that points to it (On-Disk Specification, chapter 2)
abbrev pub IsWell : ℕ → ℕ → Forest → Type 0
IsWell l g done = Unit {0}
IsWell l g (gap r) = IsWell l g r
IsWell l g (grown c b r) = (c.birth ≤ g) × IsShaped l c b × IsWell (l - 1) c.birth b × IsWell l g r

-- the cell d levels below the places, at the index q of those that they cover there (profile)
abbrev pub cell_in : ℕ → Forest → ℕ → Option Cell
cell_in d f q = option_and_then (λ p. cell_below d p (q % 16 ^ d)) (part_at f (q / 16 ^ d))
