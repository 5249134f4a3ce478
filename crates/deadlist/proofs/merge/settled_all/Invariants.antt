use Rattle.std.proofs.Common.{◌≤◌, length, take}
use Rattle.deadlist.specs.Bits.{search_steps}
use Rattle.deadlist.specs.Segments.{AreAlike, entries_in, most_steps}
use Rattle.deadlist.specs.Spans.{spans}
use Rattle.deadlist.proofs.merge.settled_all.Given as goal

abbrev pub invariant-loop-segment : goal.invariant-loop-segment
invariant-loop-segment l = record {
  alike : AreAlike (take l.segment-index (spans l.segments)) (spans l.settled.items);
  steps : most_steps l.settled.items ≤ search_steps (length (entries_in (spans l.segments)));
}
