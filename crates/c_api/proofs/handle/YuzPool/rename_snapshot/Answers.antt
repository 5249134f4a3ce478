use Rattle.c_api.specs.Asking.{asked_rename_snapshot}
use Rattle.c_api.specs.Calls.{Does}
use Rattle.c_api.proofs.Handles.{unopened}
use Rattle.c_api.proofs.handle.YuzPool.rename_snapshot.Goals as goal

pub returns-in_default : goal.returns-in_default
returns-in_default c =
    unopened (Does (asked_rename_snapshot c.args.name.now c.args.to.now c.args.recursive)) _ _ c.in_default.ensures.taken c.in_default.ensures.left
