use Rattle.std.proofs.Common.{◌≡◌, ◌+◌, length, take}
use Rattle.deadlist.specs.Spans.{spans}
use Rattle.deadlist.specs.Segments.{entries_in}
use Rattle.deadlist.proofs.parts.Parts.sum_from.Given as goal

abbrev pub invariant-loop-i : goal.invariant-loop-i
invariant-loop-i l = l.sum + length (entries_in (take l.at (spans l.self.closed.items))) ≡ length (entries_in (take l.i (spans l.self.closed.items))) + length l.self.last.entries
