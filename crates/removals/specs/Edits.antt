-- What a removal leaves of datasets, and what is to be freed then.
use Rattle.std.specs.Prelude.{◌≡◌, ℕ, List}
use Rattle.std.specs.FinSet.{union}
use Rattle.base.specs.Map.{BlockSet}
use Rattle.model.specs.World.{union_of}
use Rattle.model.specs.Edits.{with_file_system}
use Rattle.model.specs.requests.Rollback.{snaps_upto}
use Rattle.world.specs.Sets.{IsSubset, AreDisjoint}
use Rattle.world.specs.Tables.{Datasets, world_of, lost_between}

-- The datasets of the other table have no block that those of one haven't; what they haven't any more joins what is to be freed, and
-- none of that is a dataset's (zpool-features(7): async_destroy)
pub record HasLost (old : Datasets) (freeing : BlockSet) (new : Datasets) (after : BlockSet) : Type 0 where
  pub fewer : IsSubset (union_of (world_of new)) (union_of (world_of old))
  pub joined : after ≡ union freeing (lost_between old new)
  pub apart : AreDisjoint (union_of (world_of new)) after

-- the datasets where this file system has its snapshots up to a group alone, and the same where there is none of that name
-- (zfs-rollback(8), -r)
abbrev pub with_snaps_upto : Datasets → List ℕ → ℕ → Datasets
with_snaps_upto t name group = record t { file_systems = (with_file_system (world_of t) name (λ f. record f { snaps = snaps_upto f group })).file_systems }
