use Rattle.c_api.specs.Asking.{asked_free_object}
use Rattle.c_api.specs.Calls.{Does}
use Rattle.c_api.proofs.Handles.{unopened}
use Rattle.c_api.proofs.handle.YuzPool.free_object.Goals as goal

pub returns-in_default : goal.returns-in_default
returns-in_default c = unopened (Does (asked_free_object c.args.name.now c.args.object)) _ _ c.in_default.ensures.taken c.in_default.ensures.left
