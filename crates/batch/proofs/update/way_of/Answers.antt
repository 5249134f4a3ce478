use Rattle.std.proofs.Common.{arith}
use Rattle.node.proofs.Order.{span_positive}
use Rattle.batch.proofs.update.way_of.Goals as goal

pub nonzero_div-below : goal.nonzero_div-below
nonzero_div-below c = let p = span_positive c.from.result in omega (arith, p, c.span.ensures)

pub returns-in_default-clause-none : goal.returns-in_default-clause-none
returns-in_default-clause-none c = λ o place writes w. c.in_default.ensures.none o w.leaf writes w.one
