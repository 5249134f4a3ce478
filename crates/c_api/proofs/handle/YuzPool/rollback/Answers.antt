use Rattle.c_api.specs.Asking.{asked_rollback}
use Rattle.c_api.specs.Calls.{Does}
use Rattle.c_api.proofs.Handles.{unopened}
use Rattle.c_api.proofs.handle.YuzPool.rollback.Goals as goal

pub returns-in_default : goal.returns-in_default
returns-in_default c = unopened (Does (asked_rollback c.args.snapshot.now c.args.later)) _ _ c.in_default.ensures.taken c.in_default.ensures.left
