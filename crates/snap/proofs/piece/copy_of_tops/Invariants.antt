use Rattle.std.proofs.Common.{◌≡◌, take}
use Rattle.snap.proofs.piece.copy_of_tops.Given as goal

abbrev pub invariant-loop-top : goal.invariant-loop-top
invariant-loop-top l = l.copies.items ≡ take l.top-index l.tops
