use Rattle.std.proofs.Common.{Some, refl}
use Rattle.model.specs.declared.request.Request.TheVariants.{PoolGet}
use Rattle.c_api.proofs.Handles.{pool_gets}
use Rattle.c_api.proofs.host.Host.pool_get.Goals as goal

pub returns : goal.returns
returns c = pool_gets _ c.in-Some.property _ _ _ _ _ c.in-Some.ensures (c.tell_number_of.ensures (Some (PoolGet c.in-Some.property)) refl)
