-- Limits among file systems by name.
use Rattle.std.specs.Prelude.{ℕ, List, Option}
use Rattle.std.specs.FinMap.{get, insert}
use Rattle.std.specs.Option.{option_map_or}
use Rattle.model.specs.declared.limits.Limit.{Limit}
use Rattle.model.specs.Limits.{limited}
use Rattle.file_system.specs.Rows.{FileSystems}

-- the file systems, where that one has this limit, or none (zfsprops(7): quota, refquota, reservation, refreservation)
abbrev pub limited_of : FileSystems → List ℕ → Limit → Option ℕ → FileSystems
limited_of m name limit amount = option_map_or (λ f. insert m name (limited f limit amount)) (get m name) m
