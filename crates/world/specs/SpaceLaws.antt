-- What the counts from stored sizes and deadlists are, over a stretch of a lineage: a list of datasets, each next after the one before, the first next after the one with group g and blocks s.
use Rattle.std.specs.Prelude.{◌≡◌, ℕ, ◌+◌, List}
use Rattle.std.specs.FinSet.{difference, len}
use Rattle.world.specs.Blocks.{BlockSet}
use Rattle.world.specs.Lineage.{Row}
use Rattle.world.specs.Space.{AreBornBy, Follow, newest, dead_upto}
use Rattle.world.specs.Shapes.{Dataset}

-- written@: what the newest has and the one before the stretch has not (On-Disk Specification, chapter 4)
abbrev pub WrittenSince : Type 0
WrittenSince = (g : ℕ) (s : BlockSet) (xs : List (Row Dataset)) → Follow g s xs → AreBornBy g s
    → len (difference (newest s xs) s) + len s ≡ len (newest s xs) + dead_upto g xs
