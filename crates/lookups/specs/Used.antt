-- What a file system uses.
use Rattle.std.specs.Prelude.{◌+◌, ℕ, List, ◌∷◌, [], cond, map}
use Rattle.base.specs.Map.{blocks}
use Rattle.model.specs.Sums.{size_without}
use Rattle.model.specs.World.{blocks_of_all}
use Rattle.datasets.specs.Rows.{Row}
use Rattle.model.specs.Hierarchy.{is_in_family}

-- how many blocks a file system has that its origin hasn't (zfsprops(7): usedbydataset, usedbysnapshots)
abbrev pub own_in : Row → ℕ
own_in r =
    size_without (blocks r.system.live) (blocks r.below)
    + size_without (blocks_of_all (map (λ t. t.map) r.system.snaps)) (blocks_of_all (r.system.live ∷ r.below ∷ []))

-- the same where the file system is the one of this name or a descendant, and else none (zfsprops(7): used)
abbrev pub own_within : List ℕ → Row → ℕ
own_within name r = cond (is_in_family name r.name) (own_in r) 0
