use Rattle.std.proofs.Common.{◌≡◌, ◌-◌, ◌≤◌, ◌++◌, length}
use Rattle.snap.specs.Members.{dead_blocks, members}
use Rattle.snap.proofs.Pieces.{left_to}
use Rattle.snap.proofs.piece.take_blocks.Given as goal

abbrev pub invariant-loop-alloc : goal.invariant-loop-alloc
invariant-loop-alloc l = (dead_blocks l.taken.items ++ members l.pieces ≡ members l.fn.pieces) × (length l.taken.items ≤ l.wanted) × (l.fn.meter ≤ l.meter) × (l.fn.segments ≤ l.segments)

abbrev pub decreases-loop-alloc : goal.decreases-loop-alloc
decreases-loop-alloc l = left_to (l.wanted - length l.taken.items) (length l.pieces)
