use Rattle.std.proofs.lemmas.List.{take_all}
use Rattle.shared_list.proofs.spine.edits.copied.Goals as goal

pub returns : goal.returns
returns g c = cc (take_all c.loop-chunk.chunk-index c.args.chunks.now c.loop-chunk-test.false, c.loop-chunk.invariant)
