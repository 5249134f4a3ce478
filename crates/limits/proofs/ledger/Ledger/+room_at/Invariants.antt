use Rattle.limits.specs.Levels.{slashes}
use Rattle.limits.proofs.ledger.Ledger.+room_at.Given as goal

abbrev pub decreases-room_at : goal.decreases-room_at
decreases-room_at l = slashes l.name.now
