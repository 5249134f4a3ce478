use Rattle.c_api.specs.Asking.{asked_would_free}
use Rattle.c_api.specs.Calls.{TellsNumber}
use Rattle.c_api.proofs.Handles.{unopened}
use Rattle.c_api.proofs.handle.YuzPool.would_free.Goals as goal

pub returns-in_default : goal.returns-in_default
returns-in_default c = unopened (TellsNumber (asked_would_free c.args.name.now c.args.first.now c.args.last.now) c.args.value.now c.args.value.now) _ _ c.in_default.ensures.taken c.in_default.ensures.left
