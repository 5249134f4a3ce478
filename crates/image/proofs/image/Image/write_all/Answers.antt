use Rattle.std.proofs.Common.{◌*◌, [], get_or, sym, ap, subst, ◌∙◌}
use Rattle.image.specs.Image.{ShownImage, IsOpen}
use Rattle.image.specs.BlockWrites.{bytes_put}
use Rattle.image.proofs.WritingMade.{writes_more}
use Rattle.image.proofs.image.Image.write_all.Goals as goal

pub write_contents-requires : goal.write_contents-requires
write_contents-requires c = subst (λ kept. IsOpen kept (get_or c.args.blocks.now c.loop-block.block-index (record { 0 = 0 }, [])).0.0) (sym (ap (λ (s : ShownImage). s.kept) c.loop-block.invariant)) (c.requires c.loop-block.block-index _ c.loop-block-test.true)

pub loop-block-preserved : goal.loop-block-preserved
loop-block-preserved c =
    let b = get_or c.args.blocks.now c.loop-block.block-index (record { 0 = 0 }, []) in
    c.write_contents.ensures
    ∙ (λ z. record (c.loop-block.invariant z) { bytes = bytes_put (c.loop-block.invariant z).bytes (512 * b.0.0) b.1 })
    ∙ (λ z. record c.args.self.now { bytes = writes_more c.args.blocks.now c.loop-block.block-index (record { 0 = 0 }, []) c.args.self.now.bytes c.loop-block-test.true z })
