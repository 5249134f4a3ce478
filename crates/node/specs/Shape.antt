-- The shape that a part of a tree has: cells with a forest of sixteen places below each (On-Disk Specification, chapter 3: indirect blocks; the sizes are profile).
use Rattle.std.specs.Prelude.{ℕ, zero, suc, ◌+◌, ◌/◌, ◌%◌, ◌^◌, List, [], ◌∷◌, Option, Some, None}
use Rattle.std.specs.Option.{option_and_then}
use Rattle.base.specs.Map.{Cell}

-- places side by side: each is a gap, or a cell with the forest below it (profile)
pub data Forest : Type 0 where
  done : Forest
  gap : Forest → Forest
  grown : Cell → Forest → Forest → Forest

-- one cell with what is below it (profile)
pub record Part : Type 0 where
  pub cell : Cell
  pub below : Forest

-- the forest of a list of places (profile)
abbrev pub forest_of : {A : Type 0} → (A → Part) → List (Option A) → Forest
forest_of f [] = done
forest_of f (None ∷ xs) = gap (forest_of f xs)
forest_of f (Some x ∷ xs) = grown (f x).cell (f x).below (forest_of f xs)

-- the part at a place (profile)
abbrev pub part_at : Forest → ℕ → Option Part
part_at done k = None
part_at (gap r) zero = None
part_at (gap r) (suc k) = part_at r k
part_at (grown c b r) zero = Some (record { cell = c; below = b })
part_at (grown c b r) (suc k) = part_at r k

-- the cell d levels below the part's own, at the index q of those that it covers there (profile)
abbrev pub cell_below : ℕ → Part → ℕ → Option Cell
cell_below zero p q = Some p.cell
cell_below (suc d) p q = option_and_then (λ k. cell_below d k (q % 16 ^ d)) (part_at p.below (q / 16 ^ d))

-- (profile)
abbrev pub steps_in : Option Part → (Part → ℕ) → ℕ
steps_in None f = 0
steps_in (Some k) f = f k

-- how many present places stand on the way to it, its own among them (profile)
abbrev pub steps_below : ℕ → Part → ℕ → ℕ
steps_below zero p q = 1
steps_below (suc d) p q = 1 + steps_in (part_at p.below (q / 16 ^ d)) (λ k. steps_below d k (q % 16 ^ d))
