use Rattle.std.proofs.Common.{◌≡◌}
use Rattle.deadlist.specs.Left.{left_here, left_beyond, unopened, unread}
use Rattle.deadlist.proofs.iter.Iter.next_here.Given as goal

abbrev pub invariant-loop-self : goal.invariant-loop-self
invariant-loop-self l = (left_here l.self ≡ left_here l.fn.self) × (left_beyond l.self ≡ left_beyond l.fn.self) × (unopened l.self ≡ unopened l.fn.self)

abbrev pub decreases-loop-self : goal.decreases-loop-self
decreases-loop-self l = unread l.self
