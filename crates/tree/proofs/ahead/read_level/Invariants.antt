-- Each node so far was counted, and the nodes below it are those on the rest of its path.
use Rattle.std.proofs.Common.{◌≡◌, ℕ, suc, ◌+◌, ◌≤◌, length, get_or, None}
use Rattle.node.specs.Kid.{IsKid}
use Rattle.node.specs.Node.{inner_part, part_of_node}
use Rattle.tree.specs.Ahead.{nodes_to}
use Rattle.tree.proofs.ahead.read_level.Given as goal

abbrev pub invariant-loop-at : goal.invariant-loop-at
invariant-loop-at g l = record {
  sixteen : length l.below ≡ 16;
  sound : (i : ℕ) → IsKid g.C.Level.height l.newest.0 (part_of_node g.C.Level.part (get_or l.below i None));
  rest : (i : ℕ) → l.at ≤ i → get_or l.below i None ≡ None;
  counted : l.there + nodes_to g.C.Level.part l.level l.at l.below l.leaves ≡ l.fn.there + nodes_to (inner_part g.C.Level.part) (suc l.level) l.at l.nodes l.leaves;
  few : l.there ≤ l.fn.there + l.at;
}
