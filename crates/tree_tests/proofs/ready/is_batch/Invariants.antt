-- What is left to be a batch from the leaf that was reached.
use Rattle.std.proofs.Common.{drop}
use Rattle.tree.specs.Updates.{IsBatch, IsBatchFrom}
use Rattle.tree_tests.proofs.ready.is_batch.Given as goal

abbrev pub invariant-loop-update : goal.invariant-loop-update
invariant-loop-update l = IsBatchFrom l.low (drop l.update-index l.updates) → IsBatch l.updates
