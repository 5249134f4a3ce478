-- The blocks of a tree that were born after a group.
use Rattle.std.specs.Prelude.{ℕ, List, [], ◌∷◌, ◌++◌, map, filter, nat_lt}
use Rattle.std.specs.FinMap.{values}
use Rattle.base.specs.Map.{Map, Block, block_of}
use Rattle.node.specs.Shape.{Forest, done, gap, grown, Part}

-- the blocks of a map, in the order of its keys (On-Disk Specification, chapter 2)
abbrev pub blocks_of : Map → List Block
blocks_of m = map block_of (values m)

-- those born after a group (On-Disk Specification, chapter 2)
unfoldable pub born_after : ℕ → List Block → List Block
born_after cut = filter (λ b. nat_lt cut b.birth)

-- the blocks of a forest, each before those below it (profile)
abbrev pub forest_blocks : Forest → List Block
forest_blocks done = []
forest_blocks (gap r) = forest_blocks r
forest_blocks (grown c b r) = block_of c ∷ (forest_blocks b ++ forest_blocks r)

-- (profile)
abbrev pub part_blocks : Part → List Block
part_blocks p = block_of p.cell ∷ forest_blocks p.below
