use Rattle.c_api.specs.Calls.{OpensView}
use Rattle.c_api.proofs.Handles.{unopened}
use Rattle.c_api.proofs.handle.YuzPool.open_view.Goals as goal

pub returns-in_default : goal.returns-in_default
returns-in_default c = unopened (OpensView c.args.snapshot.now c.args.view.now c.args.view.now) _ _ c.in_default.ensures.taken c.in_default.ensures.left
