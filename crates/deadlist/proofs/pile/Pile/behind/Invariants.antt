use Rattle.std.proofs.Common.{◌≡◌, ◌++◌, take}
use Rattle.deadlist.specs.Entries.{run_entries}
use Rattle.deadlist.proofs.pile.Pile.behind.Given as goal

abbrev pub invariant-loop-run : goal.invariant-loop-run
invariant-loop-run l = l.entries.items ≡ l.fn.entries.items ++ run_entries (take l.run-index l.self-inside.runs.items)
