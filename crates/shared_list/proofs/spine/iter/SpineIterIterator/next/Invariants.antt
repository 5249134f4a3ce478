use Rattle.std.proofs.Common.{◌≡◌, length}
use Rattle.shared_list.specs.Ahead.{ahead}
use Rattle.shared_list.proofs.spine.iter.SpineIterIterator.next.Given as goal

abbrev pub invariant-loop-self : goal.invariant-loop-self
invariant-loop-self g l = ahead l.self ≡ ahead l.fn.self

abbrev pub decreases-loop-self : goal.decreases-loop-self
decreases-loop-self g l = length l.self.chunks.now
