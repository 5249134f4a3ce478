use Rattle.std.proofs.Common.{◌≡◌, take}
use Rattle.deadlist.proofs.parts.Parts.copy.Given as goal

abbrev pub invariant-loop-segment : goal.invariant-loop-segment
invariant-loop-segment l = l.closed.items ≡ take l.segment-index l.self.closed.items
