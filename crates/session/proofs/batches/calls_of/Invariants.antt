use Rattle.std.proofs.Common.{◌≡◌, ◌++◌, map}
use Rattle.std.specs.Vec.Iter.{into_iter_items}
use Rattle.session.proofs.SoFar.{asked_by}
use Rattle.session.proofs.batches.calls_of.Given as goal

abbrev pub invariant-loop-request : goal.invariant-loop-request
invariant-loop-request g l = l.calls.items ++ map (asked_by l.fn.seat.number) (into_iter_items l.request-iterator) ≡ map (asked_by l.fn.seat.number) l.fn.requests.items
