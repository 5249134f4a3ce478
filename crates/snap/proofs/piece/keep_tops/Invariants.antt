use Rattle.std.proofs.Common.{◌≡◌, ◌++◌}
use Rattle.snap.specs.Members.{members, tops_after}
use Rattle.snap.proofs.piece.keep_tops.Given as goal

abbrev pub invariant-loop-top : goal.invariant-loop-top
invariant-loop-top l =
    (l.fn.tops.items ≡ l.yielded ++ l.top-iterator.rest.items)
    × (tops_after l.cut.0 l.few.items ++ members l.pieces ≡ tops_after l.cut.0 l.yielded ++ members l.fn.pieces)
