use Rattle.std.proofs.Common.{◌≡◌, ◌+◌, ◌≤◌, length, take, filter}
use Rattle.deadlist.specs.Entries.{run_entries, runs_steps, is_upto}
use Rattle.deadlist.proofs.pile.Pile.counted_upto.Given as goal

abbrev pub invariant-loop-run : goal.invariant-loop-run
invariant-loop-run l = record {
  count : l.count ≡ length (filter (is_upto l.cut) (run_entries (take l.run-index l.self-inside.runs.items)));
  looked : l.meter ≤ l.fn.meter + runs_steps (take l.run-index l.self-inside.runs.items);
  never_lower : l.fn.meter ≤ l.meter;
}
