use Rattle.pool.proofs.Metered.{unmoved}
use Rattle.pool.proofs.pool.Pool.planned.Goals as goal

pub returns-in-View-clause-metered : goal.returns-in-View-clause-metered
returns-in-View-clause-metered c = unmoved c.args.self.now c.args.request.now c.viewed.result.0 (λ is. absurd cc)
