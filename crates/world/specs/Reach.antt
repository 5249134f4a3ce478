-- The blocks that the datasets of a world have, and what is on its way out.
use Rattle.std.specs.Prelude.{◌≡◌}
use Rattle.std.specs.FinSet.{difference, union}
use Rattle.world.specs.Sets.{Has, IsSubset, AreDisjoint}
use Rattle.world.specs.Blocks.{Block, BlockSet}

-- What a removal loses goes into the set on its way out: together they keep the blocks that they had, and stay apart (On-Disk Specification, chapter 4)
abbrev pub FreeingKeepsReach : Type 0
FreeingKeepsReach = (u u' freeing : BlockSet) → IsSubset u' u → AreDisjoint u freeing
    → (union u' (union freeing (difference u u')) ≡ union u freeing) × AreDisjoint u' (union freeing (difference u u'))

-- two removals lose what each loses (On-Disk Specification, chapter 4)
abbrev pub LossesAdd : Type 0
LossesAdd = (a b c : BlockSet) → IsSubset b a → IsSubset c b → difference a c ≡ union (difference a b) (difference b c)

-- each number names one block (On-Disk Specification, chapter 4)
abbrev pub AreNumbersUnique : BlockSet → Type 0
AreNumbersUnique s = (a b : Block) → Has s a → Has s b → a.number ≡ b.number → a ≡ b
