use Rattle.std.proofs.Common.{◌≡◌, ◌≤◌}
use Rattle.removals.specs.Edits.{HasLost}
use Rattle.removals.proofs.Identified.{without_ids}
use Rattle.removals.proofs.Yielded.{newer_yielded}
use Rattle.removals.proofs.working_copy.WorkingCopy.remove_newer.Given as goal

-- it is without the newer ones of those so far, and what went is to be freed
abbrev pub invariant-loop-kept : goal.invariant-loop-kept
invariant-loop-kept l = record {
  so_far : l.self.to ≡ without_ids l.initial.self.to (newer_yielded l.group.0 l.yielded);
  lost : HasLost l.initial.self.to l.initial.self.freeing l.self.to l.self.freeing;
  never_lower : l.fn.segments ≤ l.segments;
}
