-- A deadlist as a list of entries, each block once.
use Rattle.base.specs.Surveys.{AreDifferent}
use Rattle.std.specs.Prelude.{◌≡◌, ℕ, List, ◌++◌, length, filter, ltb, leb}
use Rattle.std.specs.FinSet.{union, len, from_list}
use Rattle.world.specs.Sets.{AreDisjoint}
use Rattle.world.specs.Blocks.{Block, BlockSet, after, upto}

-- the list has the set's blocks, each once (On-Disk Specification, chapter 4)
pub record Lists (ds : List Block) (s : BlockSet) : Type 0 where
  pub once : AreDifferent ds
  pub is : from_list ds ≡ s

-- the entries born after a cut (On-Disk Specification, chapter 4)
abbrev pub entries_after : ℕ → List Block → List Block
entries_after cut = filter (λ b. ltb cut b.birth)

-- the entries born by a cut (On-Disk Specification, chapter 4)
abbrev pub entries_upto : ℕ → List Block → List Block
entries_upto cut = filter (λ b. leb b.birth cut)

-- the numbers of entries are the sizes of the sets, and a cut of the list lists the cut set (On-Disk Specification, chapter 4)
abbrev pub DeadCounts : Type 0
DeadCounts = (ds : List Block) (s : BlockSet) (cut : ℕ) → Lists ds s →
    (length ds ≡ len s)
    × (length (entries_after cut ds) ≡ len (after cut s))
    × (length (entries_upto cut ds) ≡ len (upto cut s))
    × Lists (entries_after cut ds) (after cut s)
    × Lists (entries_upto cut ds) (upto cut s)

-- two lists of sets that have no block in common, one after the other (On-Disk Specification, chapter 4)
abbrev pub DeadJoin : Type 0
DeadJoin = (xs ys : List Block) (s t : BlockSet) → Lists xs s → Lists ys t → AreDisjoint s t → Lists (xs ++ ys) (union s t)
