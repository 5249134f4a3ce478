use Rattle.std.proofs.Common.{◌≡◌, ◌++◌, take, drop}
use Rattle.std.specs.List.Sorted.{IsPermutation}
use Rattle.deadlist.specs.Spans.{spans}
use Rattle.deadlist.specs.Segments.{IsCut, AreCut, entries_in, entries_of, cuts_of, uppers, with_cuts}
use Rattle.deadlist.proofs.parts.Parts.merge.Given as goal

abbrev pub invariant-loop-segment : goal.invariant-loop-segment
invariant-loop-segment l =
    IsPermutation (entries_of l.fn.self ++ entries_in (take l.segment-index (spans l.other.closed.items))) (entries_of l.self)
    × (cuts_of l.self ≡ with_cuts (cuts_of l.fn.self) (uppers (take l.segment-index (spans l.other.closed.items))))
    × IsCut l.self
    × AreCut l.from (drop l.segment-index (spans l.other.closed.items)) l.other.last.entries
