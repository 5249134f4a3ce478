-- The root stands for each of the leaves so far that a tree has, and for no other.
use Rattle.std.proofs.Common.{◌≡◌, ℕ, ◌<◌, ◌≤◌, cond, length, get_or, Some, None}
use Rattle.std.specs.Prelude.{nat_lt}
use Rattle.node.specs.Node.{root_part, part_of_node}
use Rattle.tree.proofs.ahead.roots_to.Given as goal

abbrev pub invariant-loop-at : goal.invariant-loop-at
invariant-loop-at l = record {
  sixteen : length l.roots ≡ 16;
  each : (i : ℕ) → i < l.at → part_of_node root_part (get_or l.roots i None) ≡ cond (nat_lt (get_or l.leaves i 0) 1048576) (Some (root_part l.root)) None;
  rest : (i : ℕ) → l.at ≤ i → get_or l.roots i None ≡ None;
}
