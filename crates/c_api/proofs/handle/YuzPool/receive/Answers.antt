use Rattle.c_api.specs.Calls.{ReceivesOf}
use Rattle.c_api.specs.Asking.{mode_at}
use Rattle.c_api.proofs.Handles.{unopened}
use Rattle.c_api.proofs.handle.YuzPool.receive.Goals as goal

pub returns-in_default : goal.returns-in_default
returns-in_default c = unopened (ReceivesOf c.args.name.now c.args.bytes.now (mode_at c.args.mode c.args.origin.now)) _ _ c.in_default.ensures.taken c.in_default.ensures.left
