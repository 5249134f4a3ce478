use Rattle.std.proofs.Common.{get_or, arith}
use Rattle.std.proofs.lemmas.Option.{slice_get-get_or}
use Rattle.tree.proofs.Lists.{one_more}
use Rattle.image.specs.Image.{IsOpen}
use Rattle.layers_tests.proofs.images.trees.are_open.Goals as goal

pub loop-block-preserved : goal.loop-block-preserved
loop-block-preserved c = one_more (λ b. IsOpen c.args.image.now.kept b.0.0) c.args.blocks.now c.loop-block.block-index _ c.loop-block.invariant (c.is_open.ensures c.if-not-is_open.false)

pub returns : goal.returns
returns c = λ _ k d h. c.loop-block.invariant k (get_or c.args.blocks.now k d) (omega (arith, h, c.loop-block-test.false)) (slice_get-get_or c.args.blocks.now k d h)
