use Rattle.c_api.specs.Asking.{asked_written_since}
use Rattle.c_api.specs.Calls.{TellsNumber}
use Rattle.c_api.proofs.Handles.{unopened}
use Rattle.c_api.proofs.handle.YuzPool.written_since.Goals as goal

pub returns-in_default : goal.returns-in_default
returns-in_default c = unopened (TellsNumber (asked_written_since c.args.name.now c.args.since.now) c.args.value.now c.args.value.now) _ _ c.in_default.ensures.taken c.in_default.ensures.left
