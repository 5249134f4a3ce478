use Rattle.std.proofs.Common.{Some}
use Rattle.model.specs.declared.request.Request.TheVariants.{List}
use Rattle.c_api.specs.Calls.{Lists}
use Rattle.c_api.proofs.Handles.{unopened}
use Rattle.c_api.proofs.handle.YuzPool.list.Goals as goal

pub returns-in_default : goal.returns-in_default
returns-in_default c = unopened (Lists (Some List) c.args.size.now) _ _ c.in_default.ensures.taken c.in_default.ensures.left
