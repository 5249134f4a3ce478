use Rattle.std.proofs.Common.{◌≡◌, ◌++◌, drop}
use Rattle.batch.specs.Forecast.{kept_of}
use Rattle.batch.proofs.forecast.add_kept.Given as goal

abbrev pub invariant-loop-claim : goal.invariant-loop-claim
invariant-loop-claim l = record {
  got : l.dropped.items ++ kept_of (drop l.claim-index l.claims) ≡ l.fn.dropped.items ++ kept_of l.fn.claims;
}
