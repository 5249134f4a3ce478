-- The nodes of all levels are the present keys on the paths.
use Rattle.std.proofs.Common.{◌≡◌, ℕ, ◌+◌, ◌<◌, min, length, cond, get_or, Some, None, zero-add, ap, subst, ◌∙◌, arith}
use Rattle.std.specs.Prelude.{nat_lt}
use Rattle.node.specs.Entries.{map_of, IsWell}
use Rattle.node.specs.Kid.{birth_of}
use Rattle.node.specs.Node.{whole, root_forest, root_part, leaf_part}
use Rattle.tree.specs.Ahead.{nodes_to}
use Rattle.tree.proofs.Paths.{count-len, from_root, leaf_here, leaf_past}
use Rattle.tree.proofs.tree.Tree.read_ahead.Goals as goal

pub returns-then-self-lt-MANY_BLOCKS-clause-all : goal.returns-then-self-lt-MANY_BLOCKS-clause-all
returns-then-self-lt-MANY_BLOCKS-clause-all c = λ h. let count = count-len _ _ _ c.self.view_is c.self.invariant in absurd (omega (arith, count, h, c.if-self-lt-MANY_BLOCKS.true))

pub returns-clause-small : goal.returns-clause-small
returns-clause-small c = λ h. let count = count-len _ _ _ c.self.view_is c.self.invariant in absurd (omega (arith, count, h, c.if-self-lt-MANY_BLOCKS.false))

pub returns-clause-all : goal.returns-clause-all
returns-clause-all c = λ h.
    let is : map_of (root_forest (Some c.in-Some.root)) ≡ c.args.self.now = subst (λ r. map_of (root_forest r) ≡ c.args.self.now) c.in-Some.is c.self.view_is in
    let well : IsWell 5 (birth_of (whole c.self.inside.root)) (root_forest (Some c.in-Some.root)) = subst (λ r. IsWell 5 (birth_of (whole c.self.inside.root)) (root_forest r)) c.in-Some.is c.self.invariant.well in
    let each = λ (i : ℕ) (h : i < min 16 (length c.args.leaves.now)). c.roots_to-nodes.ensures.each i h ∙ ap (λ r. cond (nat_lt (get_or c.args.leaves.now i 0) 1048576) (Some (root_part r)) None) c.deref-2.ensures in
    let paths = from_root c.args.self.now (root_part c.in-Some.root.value) c.roots_to-nodes.result c.args.leaves.now each (leaf_here c.args.self.now c.in-Some.root _ is well) (leaf_past c.args.self.now c.in-Some.root _ is well) in
    let end : c.loop-at.at ≡ min 16 (length c.args.leaves.now) = omega (arith, c.min-at-end.ensures, c.loop-at.auto.at-end, c.loop-at-test.false) in
    let last = c.loop-at.invariant.counted ∙ ap (λ n. c.read_level-nodes-5.new.there + nodes_to leaf_part 0 n c.read_level-nodes-5.result c.args.leaves.now) end in
    last
    ∙ c.read_level-nodes-5.ensures.counted
    ∙ c.read_level-nodes-4.ensures.counted
    ∙ c.read_level-nodes-3.ensures.counted
    ∙ c.read_level-nodes-2.ensures.counted
    ∙ c.read_level-nodes.ensures.counted
    ∙ zero-add (nodes_to root_part 5 (min 16 (length c.args.leaves.now)) c.roots_to-nodes.result c.args.leaves.now)
    ∙ paths
