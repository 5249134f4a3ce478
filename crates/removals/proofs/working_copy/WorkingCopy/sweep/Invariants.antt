use Rattle.std.proofs.Common.{◌≡◌, drop, map, ◌≤◌}
use Rattle.model.specs.Ids.{snap_id}
use Rattle.removals.specs.Edits.{HasLost}
use Rattle.removals.proofs.Swept.{without_each}
use Rattle.removals.proofs.working_copy.WorkingCopy.sweep.Given as goal

-- those that are left go as all do, and what went is to be freed
abbrev pub invariant-loop-id : goal.invariant-loop-id
invariant-loop-id l = record {
  so_far : without_each l.self.to l.views.opened (map snap_id (drop l.id-index l.ids)) ≡ without_each l.initial.self.to l.views.opened (map snap_id l.ids);
  lost : HasLost l.initial.self.to l.initial.self.freeing l.self.to l.self.freeing;
  never_lower : l.fn.segments ≤ l.segments;
}
