-- PoolGet (zpool-get(8)).
use Rattle.std.specs.Prelude.{false, []}
use Rattle.model.specs.declared.request.PoolProperty.{PoolProperty}
use Rattle.model.specs.declared.reply.Reply.TheVariants.{Value as ValueIs}
use Rattle.model.specs.Properties.{pool_value}
use Rattle.model.specs.Rule.{Rule, question}

-- the value of a property of the pool (zpoolprops(7))
abbrev pub pool_get_rule : PoolProperty → Rule
pool_get_rule property = question (λ s. []) (λ s. ValueIs (pool_value s property)) false
