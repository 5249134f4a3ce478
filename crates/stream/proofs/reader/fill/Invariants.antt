-- what was filled so far is what the reader gave
use Rattle.std.proofs.Common.{◌≡◌, ◌≤◌, length, take}
use Rattle.std.specs.Io.KnownBytes.{Consumes}
use Rattle.stream.proofs.reader.fill.Given as goal

abbrev pub invariant-reads : goal.invariant-reads
invariant-reads g l = (length l.buf ≡ length l.initial.buf) × (l.at ≤ length l.buf) × Consumes (g.R.Read.remaining l.initial.reader) (g.R.Read.remaining l.reader) (take l.at l.buf)
