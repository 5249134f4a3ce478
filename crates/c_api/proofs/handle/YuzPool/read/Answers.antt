use Rattle.c_api.specs.Calls.{ReadsBlock}
use Rattle.c_api.proofs.Handles.{unopened}
use Rattle.c_api.proofs.handle.YuzPool.read.Goals as goal

pub returns-in_default : goal.returns-in_default
returns-in_default c = unopened (ReadsBlock c.args.name.now c.args.object c.args.block c.args.buffer.now c.args.is_hole.now c.args.buffer.now c.args.is_hole.now) _ _ c.in_default.ensures.taken c.in_default.ensures.left
