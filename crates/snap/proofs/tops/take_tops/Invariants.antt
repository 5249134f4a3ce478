use Rattle.std.proofs.Common.{◌≡◌, ◌+◌, ◌*◌, ◌-◌, ◌≤◌, ◌++◌, length}
use Rattle.snap.specs.Members.{dead_blocks, tops_after}
use Rattle.snap.proofs.tops.take_tops.Given as goal

abbrev pub invariant-loop-cut : goal.invariant-loop-cut
invariant-loop-cut l =
    (dead_blocks l.taken.items ++ tops_after l.cut.0 l.tops.items ≡ dead_blocks l.fn.taken.items ++ tops_after l.fn.cut.0 l.fn.tops.items)
    × (length l.taken.items ≤ l.wanted)
    × (l.fn.meter ≤ l.meter)

abbrev pub decreases-loop-cut : goal.decreases-loop-cut
decreases-loop-cut l = 17 * (l.wanted - length l.taken.items) + length l.tops.items
