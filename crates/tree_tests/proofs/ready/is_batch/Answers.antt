use Rattle.std.proofs.Common.{arith}
use Rattle.tree_tests.proofs.Batches.{batch_step, batch_end}
use Rattle.tree_tests.proofs.ready.is_batch.Goals as goal

pub loop-update-preserved : goal.loop-update-preserved
loop-update-preserved c = λ w.
    c.loop-update.invariant
    (batch_step c.args.updates.now c.loop-update.update-index c.loop-update.low c.in-Some.first c.in-Some.past _ (omega arith) (omega arith)
    c.in-Some.ensures.first c.in-Some.ensures.past c.in-Some.ensures.of_tree w)

pub returns : goal.returns
returns c = λ _. c.loop-update.invariant (batch_end c.args.updates.now c.loop-update.update-index c.loop-update.low c.loop-update-test.false)
