use Rattle.std.proofs.Common.{◌<◌}
use Rattle.node.proofs.pair.read_counts.Given as goal

abbrev pub invariant-loop-pair : goal.invariant-loop-pair
invariant-loop-pair g l = 0 < l.most
