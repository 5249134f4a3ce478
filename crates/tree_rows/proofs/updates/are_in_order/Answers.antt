use Rattle.batch.proofs.Words.{batch_in_order}
use Rattle.tree_rows.proofs.updates.are_in_order.Goals as goal

pub returns : goal.returns
returns c = λ is. batch_in_order c.args.updates.now (c.is_batch.ensures is)
