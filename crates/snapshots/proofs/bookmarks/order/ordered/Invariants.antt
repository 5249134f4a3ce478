use Rattle.std.proofs.Common.{◌≡◌, map, take}
use Rattle.std.specs.FinMap.{entries}
use Rattle.snapshots.specs.Marks.{keyed_in}
use Rattle.snapshots.proofs.Ordering.{by_key}
use Rattle.snapshots.proofs.bookmarks.order.ordered.Given as goal

-- those so far stand in order
abbrev pub invariant-loop-mark : goal.invariant-loop-mark
invariant-loop-mark l = map keyed_in l.sorted.items ≡ entries (by_key (take l.mark-index l.marks))
