use Rattle.std.proofs.Common.{◌≡◌, drop}
use Rattle.model.specs.requests.Snapshot.{has_twice}
use Rattle.snap.proofs.Twice.{twice_after}
use Rattle.snap.proofs.check.has_twice.Given as goal

-- whether one stands twice hangs on what was seen and what is left
abbrev pub invariant-loop-name : goal.invariant-loop-name
invariant-loop-name l = has_twice l.all ≡ twice_after l.seen.keys (drop l.name-index l.all)
