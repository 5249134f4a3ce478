use Rattle.std.proofs.Common.{◌≡◌, ◌+◌, ◌≤◌, length, take, filter}
use Rattle.deadlist.specs.Entries.{is_after}
use Rattle.deadlist.proofs.pile.count_in.Given as goal

abbrev pub invariant-loop-dead : goal.invariant-loop-dead
invariant-loop-dead l = record {
  count : l.count ≡ length (filter (is_after l.cut) (take l.dead-index l.entries));
  few : l.count ≤ l.dead-index;
  looked : l.meter ≤ l.fn.meter + l.dead-index;
  never_lower : l.fn.meter ≤ l.meter;
}
