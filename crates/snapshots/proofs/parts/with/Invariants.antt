use Rattle.std.proofs.Common.{length}
use Rattle.snapshots.proofs.Moving.{IsMoving}
use Rattle.snapshots.proofs.parts.with.Given as goal

abbrev pub invariant-kept : goal.invariant-kept
invariant-kept l = IsMoving l.fn.kept l.left l.others l.by_name

abbrev pub decreases-kept : goal.decreases-kept
decreases-kept l = length l.left
