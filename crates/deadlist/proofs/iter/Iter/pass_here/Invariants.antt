use Rattle.std.proofs.Common.{◌≡◌, drop}
use Rattle.deadlist.specs.Left.{left, unopened, unread}
use Rattle.deadlist.proofs.iter.Iter.pass_here.Given as goal

abbrev pub invariant-loop-rest : goal.invariant-loop-rest
invariant-loop-rest l = (drop l.count (left l.self) ≡ drop l.fn.count (left l.fn.self)) × (unopened l.self ≡ unopened l.fn.self)

abbrev pub decreases-loop-rest : goal.decreases-loop-rest
decreases-loop-rest l = unread l.self
