use Rattle.c_api.specs.Calls.{Writes}
use Rattle.c_api.proofs.Handles.{unopened}
use Rattle.c_api.proofs.handle.YuzPool.write.Goals as goal

pub returns-in_default : goal.returns-in_default
returns-in_default c = unopened (Writes c.args.name.now c.args.object c.args.block c.args.bytes.now) _ _ c.in_default.ensures.taken c.in_default.ensures.left
