use Rattle.std.proofs.Common.{◌++◌, reverse, sym, ap, ◌∙◌}
use Rattle.tree.specs.Branch.{branches_below}
use Rattle.tree.specs.BranchParts.{node_part, node_level}
use Rattle.tree.proofs.Branches.{leaf_below}
use Rattle.tree.proofs.subtree.Subtree.push_below.Goals as goal

pub returns-in-Leaf : goal.returns-in-Leaf
returns-in-Leaf c =
    ap (λ xs. xs ++ reverse c.args.tops.now.items)
    (sym (leaf_below c.self.inside.key (node_part c.self.inside.node) (c.self.invariant.level ∙ ap node_level c.in-Leaf.is)) ∙ ap branches_below c.self.view_is)
