use Rattle.image.proofs.Zeros.{no_zeros, zeros_more}
use Rattle.image.proofs.output.write_zeros.Goals as goal

pub loop-block-init : goal.loop-block-init
loop-block-init g c = no_zeros (g.W.Write.contents c.args.writer.now)

pub loop-block-preserved : goal.loop-block-preserved
loop-block-preserved g c =
    zeros_more (g.W.Write.contents c.args.writer.now) (g.W.Write.contents c.loop-block.writer) (g.W.Write.contents c.write_all.new.self) c.loop-block._block c.loop-block.invariant c.in_ok-write_all.ensures.bytes
