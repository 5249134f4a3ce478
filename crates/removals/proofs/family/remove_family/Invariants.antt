use Rattle.std.proofs.Common.{◌≡◌, ◌≤◌, drop, map, length}
use Rattle.datasets.specs.Rows.{entry_in}
use Rattle.removals.specs.Edits.{HasLost}
use Rattle.removals.proofs.SystemsGone.{left_by}
use Rattle.removals.proofs.family.remove_family.Given as goal

-- the rows from this place on have gone as far as they are of the family, and what went is to be freed
abbrev pub invariant-loop-left : goal.invariant-loop-left
invariant-loop-left l = record {
  within : l.left ≤ length l.rows;
  so_far : l.edit.to ≡ left_by l.table l.name (drop l.left (map entry_in l.rows));
  lost : HasLost l.initial.edit.to l.initial.edit.freeing l.edit.to l.edit.freeing;
}

abbrev pub decreases-loop-left : goal.decreases-loop-left
decreases-loop-left l = l.left
