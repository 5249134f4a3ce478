use Rattle.c_api.specs.Calls.{Slices}
use Rattle.c_api.proofs.Handles.{unopened}
use Rattle.c_api.proofs.handle.YuzPool.slice.Goals as goal

pub returns-in_default : goal.returns-in_default
returns-in_default c = unopened (Slices c.args.count c.args.taken.now c.args.taken.now) _ _ c.in_default.ensures.taken c.in_default.ensures.left
