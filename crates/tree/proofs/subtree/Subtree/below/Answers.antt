use Rattle.std.proofs.Common.{sym, ap, ◌∙◌}
use Rattle.tree.specs.Branch.{child_of}
use Rattle.tree.specs.BranchParts.{node_part, node_level}
use Rattle.tree.proofs.Branches.{leaf_child}
use Rattle.tree.proofs.subtree.Subtree.below.Goals as goal

pub returns-in-Leaf : goal.returns-in-Leaf
returns-in-Leaf c =
    sym (leaf_child c.self.inside.key (node_part c.self.inside.node) c.args.place (c.self.invariant.level ∙ ap node_level c.in-Leaf.is))
    ∙ ap (λ b. child_of b c.args.place) c.self.view_is
