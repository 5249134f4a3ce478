use Rattle.c_api.specs.Asking.{limit_at}
use Rattle.script.specs.Words.{amount_of_bytes}
use Rattle.c_api.specs.Calls.{SetsOf}
use Rattle.c_api.proofs.Handles.{unopened}
use Rattle.c_api.proofs.handle.YuzPool.set.Goals as goal

pub returns-in_default : goal.returns-in_default
returns-in_default c = unopened (SetsOf c.args.name.now (limit_at c.args.limit) (amount_of_bytes c.args.amount)) _ _ c.in_default.ensures.taken c.in_default.ensures.left
