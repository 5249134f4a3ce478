use Rattle.std.proofs.Common.{◌≡◌, map, take}
use Rattle.std.specs.List.{flat_map}
use Rattle.datasets.specs.Rows.{entry_in}
use Rattle.model.specs.Properties.{names_of as own_names}
use Rattle.lookups.proofs.names.names_of.Given as goal

-- the names so far
abbrev pub invariant-loop-file_system : goal.invariant-loop-file_system
invariant-loop-file_system l = l.names.items ≡ flat_map own_names (map entry_in (take l.file_system-index l.file_systems))
