-- The blocks of what is to be freed.
use Rattle.std.specs.Prelude.{ℕ, List, map, drop, reverse}
use Rattle.std.specs.List.{flat_map}
use Rattle.std.specs.FinSet.{from_list}
use Rattle.base.specs.declared.number.Dead.{Dead}
use Rattle.base.specs.Map.{Block, BlockSet}
use Rattle.base.specs.Surveys.{dead_block}
use Rattle.tree.specs.Branch.{Branch, branch_blocks}
use Rattle.world.specs.Deadlists.{entries_after}
use Rattle.snap.specs.declared.piece.Piece.{Piece}
use Rattle.snap.specs.declared.piece.Piece.TheVariants.{Trees, Dead as DeadPiece}

-- the blocks of entries (On-Disk Specification, chapter 4: dead lists)
abbrev pub dead_blocks : List Dead → List Block
dead_blocks = map dead_block

-- the set of the blocks of entries (On-Disk Specification, chapter 4)
abbrev pub dead_set : List Dead → BlockSet
dead_set ds = from_list (dead_blocks ds)

-- the blocks of a branch that were born after a cut (On-Disk Specification, chapter 2: birth txg)
abbrev pub born_after : ℕ → Branch → List Block
born_after cut b = entries_after cut (branch_blocks b)

-- those of several, the last one's first (profile)
abbrev pub tops_after : ℕ → List Branch → List Block
tops_after cut bs = flat_map (born_after cut) (reverse bs)

-- the blocks of a piece: of subtrees those born after their cut, of a dead list the entries that are left (zpool-features(7): async_destroy)
abbrev pub piece_blocks : Piece → List Block
piece_blocks (Trees tops cut) = tops_after cut.0 tops.items
piece_blocks (DeadPiece list first) = dead_blocks (drop first list.value.entries)

-- those of several, the last one's first (profile)
abbrev pub members : List Piece → List Block
members ps = flat_map piece_blocks (reverse ps)
