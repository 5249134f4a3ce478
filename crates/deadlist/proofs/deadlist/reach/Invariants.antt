use Rattle.std.proofs.Common.{◌≡◌}
use Rattle.base.specs.Counting.{counted}
use Rattle.deadlist.proofs.deadlist.reach.Given as goal

abbrev pub invariant-loop-i : goal.invariant-loop-i
invariant-loop-i l = l.meter ≡ counted l.fn.meter l._i
