use Rattle.std.proofs.Common.{◌++◌, length}
use Rattle.std.specs.List.Sorted.{IsPermutation}
use Rattle.deadlist.specs.Entries.{run_entries, AreHalved}
use Rattle.deadlist.proofs.pile.stack.Given as goal

abbrev pub invariant-loop-last : goal.invariant-loop-last
invariant-loop-last l = record {
  entries : IsPermutation (run_entries l.fn.runs.items ++ l.fn.run) (run_entries l.runs.items ++ l.run);
  halved : AreHalved l.runs.items;
}

abbrev pub decreases-loop-last : goal.decreases-loop-last
decreases-loop-last l = length l.runs.items
