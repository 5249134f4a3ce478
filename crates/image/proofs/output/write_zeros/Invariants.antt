-- so many blocks of zeros were written
use Rattle.std.proofs.Common.{◌*◌, replicate}
use Rattle.std.specs.Io.KnownBytes.{Appends}
use Rattle.image.proofs.output.write_zeros.Given as goal

abbrev pub invariant-loop-block : goal.invariant-loop-block
invariant-loop-block g l = Appends (g.W.Write.contents l.fn.writer) (g.W.Write.contents l.writer) (replicate (512 * l._block) 0)
