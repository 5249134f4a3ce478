-- The space of a file system, from the deadlists of its datasets.
use Rattle.std.specs.Prelude.{◌+◌, ℕ, List, [], ◌∷◌}
use Rattle.std.specs.Option.{option_map_or}
use Rattle.std.specs.FinSet.{len}
use Rattle.model.specs.World.{World, FileSystem, Snap, Dataset, Live, Snapped, id_of}
use Rattle.world.specs.Blocks.{after, upto}
use Rattle.world.specs.Dead.{dead_of}

-- the datasets of a file system, the oldest first and its live map last (On-Disk Specification, chapter 4)
abbrev pub datasets_from : List ℕ → List Snap → List Dataset
datasets_from name [] = Live name ∷ []
datasets_from name (t ∷ ts) = Snapped (id_of t) ∷ datasets_from name ts

-- the datasets after the one that comes next (On-Disk Specification, chapter 4)
abbrev pub rest_in : List ℕ → List Snap → List Dataset
rest_in name [] = []
rest_in name (t ∷ ts) = datasets_from name ts

-- how many entries of their deadlists were born by a group, and after it (zfsprops(7), used)
abbrev pub dead_by : World → ℕ → List Dataset → ℕ
dead_by w cut [] = 0
dead_by w cut (d ∷ ds) = len (upto cut (dead_of w d)) + dead_by w cut ds

-- how many entries of their deadlists were born after a group (zfsprops(7), used)
abbrev pub dead_since : World → ℕ → List Dataset → ℕ
dead_since w cut [] = 0
dead_since w cut (d ∷ ds) = len (after cut (dead_of w d)) + dead_since w cut ds

-- the group of a file system's origin, and 0 where it has none (zfsprops(7), origin)
abbrev pub origin_group : FileSystem → ℕ
origin_group s = option_map_or (λ id. id.group) s.origin 0
