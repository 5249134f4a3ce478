use Rattle.memchr.specs.Find.{Nowhere, Passes, is_byte}
use Rattle.script.proofs.words.space_place.Given as goal

abbrev pub invariant-loop-i : goal.invariant-loop-i
invariant-loop-i l = Nowhere (Passes (is_byte 32) l.line) 0 l.i
