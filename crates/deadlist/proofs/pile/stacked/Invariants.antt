use Rattle.std.proofs.Common.{take}
use Rattle.std.specs.List.Sorted.{IsPermutation}
use Rattle.deadlist.specs.Entries.{run_entries, AreHalved}
use Rattle.deadlist.proofs.pile.stacked.Given as goal

abbrev pub invariant-loop-run : goal.invariant-loop-run
invariant-loop-run l = record {
  entries : IsPermutation (run_entries (take l.run-index l.runs)) (run_entries l.stacked.items);
  halved : AreHalved l.stacked.items;
}
