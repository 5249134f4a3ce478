-- What a snapshot alone has, beside its clones.
use Rattle.std.specs.Prelude.{◌≡◌, ℕ, List, Some, map}
use Rattle.std.specs.FinMap.{get}
use Rattle.base.specs.Map.{Block, BlockSet, blocks}
use Rattle.model.specs.World.{FileSystem}
use Rattle.world.specs.Sets.{Has}
use Rattle.world.specs.Tables.{Datasets, world_of}
use Rattle.datasets.specs.Clones.{below_in}
use Rattle.limits.specs.Space.{oldest_in, without_each}

-- a file system whose origin has all these blocks (zfs-clone(8))
pub record IsCloneAbove (t : Datasets) (bs : BlockSet) (name : List ℕ) : Type 0 where
  pub system : FileSystem
  pub at : get t.file_systems name ≡ Some system
  pub has : (b : Block) → Has bs b → Has (blocks (below_in t.file_systems system.origin)) b

-- what of these blocks none of the oldest datasets of these file systems has (zfsprops(7): used, of a snapshot)
abbrev pub struck : Datasets → BlockSet → List (List ℕ) → BlockSet
struck t bs names = without_each (world_of t) bs (map (oldest_in (world_of t)) names)
