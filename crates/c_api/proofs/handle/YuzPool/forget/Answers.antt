use Rattle.c_api.specs.Calls.{Forgotten}
use Rattle.c_api.proofs.Handles.{unopened}
use Rattle.c_api.proofs.handle.YuzPool.forget.Goals as goal

pub returns-in_default : goal.returns-in_default
returns-in_default c = unopened (Forgotten) _ _ c.in_default.ensures.taken c.in_default.ensures.left
