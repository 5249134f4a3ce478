use Rattle.std.proofs.Common.{◌≡◌, ◌&&◌, map, take, ◌≤◌}
use Rattle.model.specs.Outcome.{is_needed}
use Rattle.model.specs.World.{id_of}
use Rattle.world.specs.Tables.{world_of}
use Rattle.removals.specs.Edits.{HasLost}
use Rattle.removals.specs.Found.{removed_or_deferred}
use Rattle.removals.proofs.working_copy.WorkingCopy.remove_or_defer.Given as goal

-- those so far are gone or deferred, and what went is to be freed
abbrev pub invariant-loop-found : goal.invariant-loop-found
invariant-loop-found l = record {
  so_far : l.self.to ≡ removed_or_deferred l.table (λ u. l.defer && is_needed (world_of l.table) l.views.opened u) (map (λ p. id_of p.1) (take l.found-index l.all));
  lost : HasLost l.initial.self.to l.initial.self.freeing l.self.to l.self.freeing;
  never_lower : l.fn.segments ≤ l.segments;
}
