use Rattle.std.proofs.Common.{◌≡◌, ◌≤◌, take, filter}
use Rattle.deadlist.specs.Entries.{is_after, is_upto, run_entries, runs_steps}
use Rattle.deadlist.proofs.pile.divided.Given as goal

abbrev pub invariant-loop-run : goal.invariant-loop-run
invariant-loop-run l = record {
  low : run_entries l.low.items ≡ filter (is_upto l.cut) (run_entries (take l.run-index l.runs));
  high : run_entries l.high.items ≡ filter (is_after l.cut) (run_entries (take l.run-index l.runs));
  low_steps : runs_steps l.low.items ≤ runs_steps (take l.run-index l.runs);
  high_steps : runs_steps l.high.items ≤ runs_steps (take l.run-index l.runs);
}
