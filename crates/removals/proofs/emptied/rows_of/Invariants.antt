use Rattle.std.proofs.Common.{◌≡◌, ◌++◌, Bor, map, drop}
use Rattle.std.specs.List.{filter}
use Rattle.std.specs.FinMap.{entries}
use Rattle.datasets.specs.Rows.{Row, Entry, entry_of, entry_in}
use Rattle.model.specs.Hierarchy.{is_in_family}
use Rattle.removals.proofs.emptied.rows_of.Given as goal

-- those so far, and those that are left
abbrev pub invariant-loop-file_system : goal.invariant-loop-file_system
invariant-loop-file_system l =
    map (λ (x : Bor Row). entry_of x.now) l.rows.items ++ filter (λ (r : Entry). is_in_family l.name r.0) (map entry_in (drop l.file_system-index l.file_system-items))
    ≡ filter (λ (r : Entry). is_in_family l.name r.0) (entries l.table.file_systems)
