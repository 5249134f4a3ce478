use Rattle.std.proofs.Common.{◌≡◌, ◌-◌, ◌++◌, take, drop}
use Rattle.deadlist.specs.Left.{left}
use Rattle.snap.proofs.piece.take_entries.Given as goal

abbrev pub invariant-loop : goal.invariant-loop
invariant-loop l = l.taken.items ++ take (l.count - l.counter) (left l.entries) ≡ l.fn.taken.items ++ take l.count (drop l.fn.first l.list.entries)
