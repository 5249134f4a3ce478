use Rattle.std.proofs.Common.{◌≡◌, sym, subst, ◌∙◌, arith}
use Rattle.base.specs.Map.{blocks}
use Rattle.world.specs.Blocks.{after}
use Rattle.layers_tests.proofs.Young.{AreAfter, kept_apart, all_after, tree_after, tree_by}
use Rattle.layers_tests.proofs.slices.Work.add_tree.Goals as goal

pub add_tree-requires-clause-apart : goal.add_tree-requires-clause-apart
add_tree-requires-clause-apart c =
    let none : c.in_ok-count_after.field-0 ≡ 0 = omega (arith, c.if-branch-gt0.false) in
    let self = c.args.self.now in
    let born = after c.args.cut.0 (blocks c.args.tree.now) in
    kept_apart self.low self.freeing born self.young (tree_by c.args.tree.now c.args.cut.0 self.low (sym c.in_ok-count_after.ensures ∙ none))

pub invariant_of-self-2 : goal.invariant_of-self-2
invariant_of-self-2 c =
    let self = c.args.self.now in
    let born = after c.args.cut.0 (blocks c.args.tree.now) in
    record { young = subst (AreAfter c.args.cut.0) (sym c.in_ok-add_tree.ensures.ok) (all_after c.args.cut.0 self.low self.freeing born (omega (arith, c.if-cut-self.false)) self.young (tree_after c.args.tree.now c.args.cut.0)) }
