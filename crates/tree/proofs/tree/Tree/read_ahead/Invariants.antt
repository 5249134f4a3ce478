-- Each leaf so far was counted.
use Rattle.std.proofs.Common.{◌≡◌, ◌+◌, ◌≤◌}
use Rattle.node.specs.Node.{leaf_part}
use Rattle.tree.specs.Ahead.{nodes_to}
use Rattle.tree.proofs.tree.Tree.read_ahead.Given as goal

abbrev pub invariant-loop-at : goal.invariant-loop-at
invariant-loop-at l = record {
  counted : l.there ≡ l.initial.there + nodes_to leaf_part 0 l.at l.nodes l.leaves;
  few : l.there ≤ l.initial.there + l.at;
  most : l.initial.there ≤ 80;
}
