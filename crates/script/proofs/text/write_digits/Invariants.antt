use Rattle.std.proofs.Common.{length}
use Rattle.script.proofs.PartLemmas.{IsWrittenBut}
use Rattle.script.proofs.text.write_digits.Given as goal

-- the digits of all bytes but these that are left are written
abbrev pub invariant-loop-left : goal.invariant-loop-left
invariant-loop-left g l = IsWrittenBut (g.W.Sink.contents l.fn.writer) (g.W.Sink.contents l.writer) l.fn.bytes l.left

abbrev pub decreases-loop-left : goal.decreases-loop-left
decreases-loop-left g l = length l.left
