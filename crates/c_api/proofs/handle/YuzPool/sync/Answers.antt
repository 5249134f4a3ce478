use Rattle.c_api.specs.Calls.{Syncs}
use Rattle.c_api.proofs.Handles.{unopened}
use Rattle.c_api.proofs.handle.YuzPool.sync.Goals as goal

pub returns-in_default : goal.returns-in_default
returns-in_default c = unopened (Syncs c.args.group.now c.args.group.now) _ _ c.in_default.ensures.taken c.in_default.ensures.left
