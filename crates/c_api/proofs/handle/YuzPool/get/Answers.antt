use Rattle.c_api.specs.Calls.{GetsOf}
use Rattle.c_api.specs.Asking.{property_at}
use Rattle.c_api.proofs.Handles.{unopened}
use Rattle.c_api.proofs.handle.YuzPool.get.Goals as goal

pub returns-in_default : goal.returns-in_default
returns-in_default c = unopened (GetsOf c.args.name.now (property_at c.args.property) c.args.value.now c.args.value.now) _ _ c.in_default.ensures.taken c.in_default.ensures.left
