-- the records so far were put out
use Rattle.std.proofs.Common.{take}
use Rattle.std.specs.List.{flat_map}
use Rattle.stream.specs.Spelling.{record_bytes}
use Rattle.stream.specs.Writing.{Puts}
use Rattle.stream.proofs.writer.put_records.Given as goal

abbrev pub invariant-loop-item : goal.invariant-loop-item
invariant-loop-item g l = Puts (g.W.Write.contents l.fn.writer) (g.W.Write.contents l.writer) l.fn.hasher l.hasher (flat_map record_bytes (take l.item-index l.records))
