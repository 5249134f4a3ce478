use Rattle.std.proofs.Common.{◌≡◌, drop, map, ◌≤◌}
use Rattle.std.specs.FinMap.{entries}
use Rattle.datasets.specs.Rows.{entry_in}
use Rattle.removals.specs.Edits.{HasLost}
use Rattle.removals.proofs.Swept.{without_origins}
use Rattle.removals.proofs.sweep.sweep.Given as goal

-- the origins of those that are left go as those of all do, and what went is to be freed
abbrev pub invariant-loop-file_system : goal.invariant-loop-file_system
invariant-loop-file_system l = record {
  so_far : without_origins l.edit.to l.views.opened (map entry_in (drop l.file_system-index l.file_system-items)) ≡ without_origins l.initial.edit.to l.views.opened (entries l.table.file_systems);
  lost : HasLost l.initial.edit.to l.initial.edit.freeing l.edit.to l.edit.freeing;
  never_lower : l.fn.segments ≤ l.segments;
}
