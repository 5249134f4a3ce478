use Rattle.std.proofs.Common.{◌≡◌, length, take}
use Rattle.deadlist.specs.Entries.{run_entries}
use Rattle.deadlist.proofs.pile.total.Given as goal

abbrev pub invariant-loop-run : goal.invariant-loop-run
invariant-loop-run l = l.total ≡ length (run_entries (take l.run-index l.runs))
