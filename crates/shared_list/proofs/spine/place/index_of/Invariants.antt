use Rattle.std.proofs.Common.{◌≡◌, length, take}
use Rattle.shared_list.specs.Elements.{elements}
use Rattle.shared_list.proofs.spine.place.index_of.Given as goal

abbrev pub invariant-loop-k : goal.invariant-loop-k
invariant-loop-k g l = l.before ≡ length (elements (take l.k l.chunks))
