use Rattle.std.proofs.Common.{◌≤◌, Bor, drop, map, length}
use Rattle.datasets.specs.Rows.{Row, entry_of}
use Rattle.removals.specs.Edits.{HasLost}
use Rattle.removals.proofs.Emptying.{IsStage}
use Rattle.removals.proofs.emptied.empty_family.Given as goal

-- those from this place on are empty, and what they lost is to be freed
abbrev pub invariant-loop-left : goal.invariant-loop-left
invariant-loop-left l = record {
  within : l.left ≤ length l.rows.items;
  stage : IsStage l.table l.name l.edit.to (map (λ (x : Bor Row). entry_of x.now) (drop l.left l.rows.items));
  lost : HasLost l.initial.edit.to l.initial.edit.freeing l.edit.to l.edit.freeing;
  never_lower : l.fn.segments ≤ l.segments;
}

abbrev pub decreases-loop-left : goal.decreases-loop-left
decreases-loop-left l = l.left
