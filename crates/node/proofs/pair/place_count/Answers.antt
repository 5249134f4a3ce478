use Rattle.std.proofs.Common.{arith}
use Rattle.node.proofs.Pairs.{length-places_in}
use Rattle.node.proofs.pair.place_count.Goals as goal

pub returns-clause-all : goal.returns-clause-all
returns-clause-all g c = let wide = length-places_in c.args.kids.now in omega (arith, wide, c.type_inv.kids)
