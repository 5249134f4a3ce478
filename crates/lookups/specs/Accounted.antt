-- The ledger that is kept of datasets.
use Rattle.std.specs.Prelude.{◌≡◌, List, Option, None, Some}
use Rattle.world.specs.Tables.{Datasets, world_of}
use Rattle.limits.specs.Limits.{IsUnlimited}
use Rattle.limits.specs.declared.line.Line.{Line}
use Rattle.limits.specs.Ledgers.{ledger_of}

-- the ledger of these datasets is kept, or none, where no file system has a limit (profile)
abbrev pub IsAccounted : Datasets → Option (List Line) → Type 0
IsAccounted t None = IsUnlimited t.file_systems
IsAccounted t (Some lines) = lines ≡ ledger_of (world_of t)
