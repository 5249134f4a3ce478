-- Limits of a table's file systems.
use Rattle.std.specs.Prelude.{ℕ, List, Option}
use Rattle.model.specs.declared.limits.Limit.{Limit}
use Rattle.model.specs.requests.Set.{after_set}
use Rattle.world.specs.Tables.{Datasets, world_of}

-- one limit of the file system of this name set to an amount, or to none (zfsprops(7): quota, refquota, reservation, refreservation)
abbrev pub with_limit_of : Datasets → List ℕ → Limit → Option ℕ → Datasets
with_limit_of t name limit amount = record t { file_systems = (after_set (world_of t) name limit amount).file_systems }
