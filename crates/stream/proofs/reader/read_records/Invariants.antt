-- the records so far were read; each moves the next one's first leaf on
use Rattle.std.proofs.Common.{◌-◌}
use Rattle.stream.proofs.Parts.{AreReadTo}
use Rattle.stream.proofs.reader.read_records.Given as goal

abbrev pub invariant-records : goal.invariant-records
invariant-records g l = AreReadTo (g.R.Read.remaining l.fn.reader) (g.R.Read.remaining l.reader) l.fn.hasher l.hasher l.records.items l.from

abbrev pub decreases-records : goal.decreases-records
decreases-records g l = 1048576 - l.from
