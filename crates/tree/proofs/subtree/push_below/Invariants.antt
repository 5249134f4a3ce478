-- The subtrees from a place on lie on the others.
use Rattle.std.proofs.Common.{◌≡◌, ◌≤◌, ◌++◌, reverse}
use Rattle.tree.specs.BranchParts.{branch_at}
use Rattle.node.specs.Node.{inner_part}
use Rattle.tree.proofs.Branches.{branches_from}
use Rattle.tree.proofs.subtree.push_below.Given as goal

abbrev pub invariant-loop-place : goal.invariant-loop-place
invariant-loop-place g l =
    (l.place ≤ 16)
    × (reverse l.tops.items ≡ branches_from (branch_at l.key (inner_part g.C.Level.part l.node)) l.place ++ reverse l.fn.tops.items)

abbrev pub decreases-loop-place : goal.decreases-loop-place
decreases-loop-place g l = l.place
