use Rattle.std.proofs.Common.{arith}
use Rattle.node.proofs.Order.{span_positive}
use Rattle.batch.proofs.update.is_over.Goals as goal

pub nonzero_div-result : goal.nonzero_div-result
nonzero_div-result c = let p = span_positive c.from.result in omega (arith, p, c.span.ensures)
