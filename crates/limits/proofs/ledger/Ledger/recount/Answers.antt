use Rattle.std.proofs.Common.{subst}
use Rattle.std.specs.FinMap.{entries}
use Rattle.datasets.specs.Places.{IsAt, IsGapFor}
use Rattle.limits.proofs.ledger.Ledger.recount.Goals as goal

pub read-requires-clause-there : goal.read-requires-clause-there
read-requires-clause-there c = subst (λ n. IsAt (entries c.args.table.now.file_systems) n c.in-Ok.place) c.as_bytes.ensures.value c.in-Ok.ensures.ok

pub leave-requires-clause-gone : goal.leave-requires-clause-gone
leave-requires-clause-gone c = subst (λ n. IsGapFor (entries c.args.table.now.file_systems) n c.in-Err.gap) c.as_bytes.ensures.value c.in-Err.ensures.gap
