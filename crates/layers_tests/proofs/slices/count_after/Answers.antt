use Rattle.std.proofs.Common.{length, ap, ◌∙◌}
use Rattle.layers_tests.proofs.Young.{tree_count}
use Rattle.layers_tests.proofs.slices.count_after.Goals as goal

pub returns : goal.returns
returns c = ap length c.as_slice.ensures.value ∙ tree_count c.args.tree.now c.in_ok-blocks.blocks.items c.args.cut.0 c.node_count-count.ensures.unique c.in_ok-blocks.ensures.ok
