use Rattle.c_api.specs.Asking.{asked_destroy_snapshots}
use Rattle.c_api.specs.Calls.{Does}
use Rattle.c_api.proofs.Handles.{unopened}
use Rattle.c_api.proofs.handle.YuzPool.destroy_snapshots.Goals as goal

pub returns-in_default : goal.returns-in_default
returns-in_default c = unopened (Does (asked_destroy_snapshots c.args.names.now c.args.recursive c.args.defer)) _ _ c.in_default.ensures.taken c.in_default.ensures.left
