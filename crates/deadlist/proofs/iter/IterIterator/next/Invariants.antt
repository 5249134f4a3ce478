use Rattle.std.proofs.Common.{◌≡◌}
use Rattle.deadlist.specs.Left.{left, unopened}
use Rattle.deadlist.proofs.iter.IterIterator.next.Given as goal

abbrev pub invariant-loop-dead : goal.invariant-loop-dead
invariant-loop-dead l = left l.self ≡ left l.fn.self

abbrev pub decreases-loop-dead : goal.decreases-loop-dead
decreases-loop-dead l = unopened l.self
