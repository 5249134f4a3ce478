use Rattle.std.proofs.Common.{sym, subst}
use Rattle.world.specs.Tables.{Datasets}
use Rattle.pool.specs.Pools.{IsHeld}
use Rattle.pool.proofs.pool.Pool.look_at.Goals as goal

pub invariant_of-self : goal.invariant_of-self
invariant_of-self c = subst (λ (t : Datasets). IsHeld c.self.inside.keep (record c.self.inside.present { table = t })) (sym c.look_at.ensures) c.self.invariant
