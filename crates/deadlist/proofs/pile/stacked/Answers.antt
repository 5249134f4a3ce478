use Rattle.std.proofs.Common.{◌++◌, [], arith}
use Rattle.std.specs.List.Sorted.{IsPermutation}
use Rattle.deadlist.specs.Entries.{run_items, run_entries}
use Rattle.deadlist.proofs.Merges.{perm_piece}
use Rattle.deadlist.proofs.pile.stacked.Goals as goal

pub loop-run-preserved : goal.loop-run-preserved
loop-run-preserved c =
    let now = run_entries c.loop-run.stacked.items in
    let new = run_entries c.stack.new.runs.items in
    let put : IsPermutation (now ++ c.run-item.result) new = rw c.in_ok-copy.ensures at c.in_ok-stack.ensures.ok in
    record {
      entries = perm_piece run_items [] now new c.args.runs.now c.loop-run.run-index c.run-item.result (omega arith) c.run-item.is c.loop-run.invariant.entries put;
      halved = c.in_ok-stack.ensures.halved;
    }
