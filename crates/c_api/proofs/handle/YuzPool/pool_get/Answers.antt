use Rattle.c_api.specs.Asking.{pool_property_at}
use Rattle.c_api.specs.Calls.{PoolGetsOf}
use Rattle.c_api.proofs.Handles.{unopened}
use Rattle.c_api.proofs.handle.YuzPool.pool_get.Goals as goal

pub returns-in_default : goal.returns-in_default
returns-in_default c = unopened (PoolGetsOf (pool_property_at c.args.property) c.args.value.now c.args.value.now) _ _ c.in_default.ensures.taken c.in_default.ensures.left
