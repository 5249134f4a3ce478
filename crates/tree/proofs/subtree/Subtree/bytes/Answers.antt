use Rattle.std.proofs.Common.{Some, sym, ap, ◌∙◌, arith}
use Rattle.node.specs.declared.leaf.Leaf.{Leaf}
use Rattle.tree.specs.BranchParts.{node_part, node_level}
use Rattle.tree.proofs.BranchKeys.{level_of, bytes_of, above_leaves}
use Rattle.tree.proofs.subtree.Subtree.bytes.Goals as goal

pub returns-in-Leaf-clause-leaf : goal.returns-in-Leaf-clause-leaf
returns-in-Leaf-clause-leaf c = λ _.
    ap (λ (n : Leaf). Some n.bytes) c.deref.ensures
    ∙ ap (λ n. Some (node_part n).cell.bytes) (sym c.in-Leaf.is)
    ∙ sym (bytes_of c.args.self.now c.self.inside.key c.self.inside.node c.self.view_is c.self.invariant)

pub returns-in-Leaf-clause-inner : goal.returns-in-Leaf-clause-inner
returns-in-Leaf-clause-inner c = λ high.
    let level = level_of c.args.self.now c.self.inside.key c.self.inside.node c.self.view_is c.self.invariant in
    let zero = ap node_level c.in-Leaf.is in
    absurd (omega (arith, high, level, zero))

pub returns-in_default-clause-leaf : goal.returns-in_default-clause-leaf
returns-in_default-clause-leaf c = λ low.
    let level = level_of c.args.self.now c.self.inside.key c.self.inside.node c.self.view_is c.self.invariant in
    absurd (above_leaves c.self.inside.node c.in_default.not-Leaf (omega (arith, low, level)))
