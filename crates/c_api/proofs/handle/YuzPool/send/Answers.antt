use Rattle.c_api.specs.Calls.{Sends}
use Rattle.c_api.proofs.Handles.{unopened}
use Rattle.c_api.proofs.handle.YuzPool.send.Goals as goal

pub returns-in_default : goal.returns-in_default
returns-in_default c = unopened (Sends c.args.name.now c.args.from.now c.args.size.now) _ _ c.in_default.ensures.taken c.in_default.ensures.left
