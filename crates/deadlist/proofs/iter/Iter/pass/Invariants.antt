use Rattle.std.proofs.Common.{◌≡◌, drop}
use Rattle.deadlist.specs.Left.{left, unopened}
use Rattle.deadlist.proofs.iter.Iter.pass.Given as goal

abbrev pub invariant-loop-count : goal.invariant-loop-count
invariant-loop-count l = drop l.count (left l.self) ≡ drop l.fn.count (left l.fn.self)

abbrev pub decreases-loop-count : goal.decreases-loop-count
decreases-loop-count l = unopened l.self
