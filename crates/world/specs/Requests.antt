-- The facts on lineages in the words of the product, and a request that takes several snapshots.
use Rattle.std.specs.Prelude.{◌≡◌, ℕ, ◌<◌, ◌≤◌, ◌↔◌, ◌⊎◌, List, [], ◌∷◌}
use Rattle.std.specs.FinSet.{difference}
use Rattle.world.specs.Sets.{Has}
use Rattle.world.specs.Blocks.{Block}
use Rattle.world.specs.Lineage.{Row}
use Rattle.world.specs.Shapes.{Name, SnapId, Dataset, SnapShape, Shapes, HasSnapshot, lineages, IsGood}

-- The deadlist of a dataset is what the one before has and it has not; a block of it is in the one before exactly when it was born by that one's group; births are at most the open group; a snapshot's group is below it (On-Disk Specification, chapter 4)
abbrev pub LineageFacts : Type 0
LineageFacts = (m : Shapes) (g : ℕ) → IsGood m g →
    ((d : Dataset) (n : Row Dataset) → lineages m g d n →
    (n.dead ≡ difference n.below n.blocks)
    × ((b : Block) → Has n.blocks b → Has n.below b ↔ (b.birth ≤ n.base))
    × ((b : Block) → Has n.blocks b → b.birth ≤ g)
    × (n.base < n.group))
    × ((id : SnapId) (s : SnapShape) → HasSnapshot m id s → id.group < g)

-- the name is one of the list's (profile)
abbrev pub IsNamed : List (Name × ℕ) → Name → Type 0
IsNamed [] name = ⊥
IsNamed (x ∷ xs) name = (name ≡ x.0) ⊎ IsNamed xs name
