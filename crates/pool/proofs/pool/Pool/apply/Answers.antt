use Rattle.std.proofs.Common.{}
use Rattle.pool.proofs.pool.Pool.apply.Goals as goal

pub returns-clause-step : goal.returns-clause-step
returns-clause-step c = rw c.look_at.ensures at c.take.ensures.step

pub returns-clause-applied : goal.returns-clause-applied
returns-clause-applied c = record {
  metered = rw c.look_at.ensures at c.take.ensures.metered;
  writes = rw c.look_at.ensures at c.take.ensures.writes;
  keeps = rw c.look_at.ensures at c.take.ensures.keeps;
}
