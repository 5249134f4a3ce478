use Rattle.c_api.specs.Calls.{Does}
use Rattle.std.specs.Prelude.{Some}
use Rattle.model.specs.declared.request.Request.TheVariants.{Abandon}
use Rattle.c_api.proofs.Handles.{unopened}
use Rattle.c_api.proofs.handle.YuzPool.abandon.Goals as goal

pub returns-in_default : goal.returns-in_default
returns-in_default c = unopened (Does (Some Abandon)) _ _ c.in_default.ensures.taken c.in_default.ensures.left
