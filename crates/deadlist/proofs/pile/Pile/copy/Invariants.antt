use Rattle.std.proofs.Common.{◌≡◌, take}
use Rattle.deadlist.proofs.pile.Pile.copy.Given as goal

abbrev pub invariant-loop-run : goal.invariant-loop-run
invariant-loop-run l = l.runs.items ≡ take l.run-index l.self-inside.runs.items
