use Rattle.std.proofs.Common.{◌≤◌}
use Rattle.lookups.proofs.SentPlaces.{AddsBefore}
use Rattle.lookups.proofs.walk.+add_sent.Given as goal

abbrev pub decreases-add_sent : goal.decreases-add_sent
decreases-add_sent l = l.key.level

abbrev pub invariant-loop-place : goal.invariant-loop-place
invariant-loop-place l = AddsBefore l.since.0 l.top l.place l.fn.records.items l.records.items × (l.fn.meter ≤ l.meter)
