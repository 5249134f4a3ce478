use Rattle.c_api.specs.Asking.{asked_holds}
use Rattle.c_api.specs.Calls.{Lists}
use Rattle.c_api.proofs.Handles.{unopened}
use Rattle.c_api.proofs.handle.YuzPool.holds.Goals as goal

pub returns-in_default : goal.returns-in_default
returns-in_default c = unopened (Lists (asked_holds c.args.snapshot.now) c.args.size.now) _ _ c.in_default.ensures.taken c.in_default.ensures.left
