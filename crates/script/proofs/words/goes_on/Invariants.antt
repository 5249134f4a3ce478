use Rattle.std.proofs.Common.{◌≡◌, ◌&&◌, drop}
use Rattle.script.specs.Words.{joins}
use Rattle.script.proofs.words.goes_on.Given as goal

abbrev pub invariant-loop-byte : goal.invariant-loop-byte
invariant-loop-byte l = (l.is_well && joins l.is_after_space (drop l.byte-index l.bytes)) ≡ joins l.after_space l.bytes
