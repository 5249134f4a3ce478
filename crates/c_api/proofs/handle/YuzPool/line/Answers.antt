use Rattle.c_api.specs.Calls.{Answers}
use Rattle.c_api.proofs.Handles.{unopened}
use Rattle.c_api.proofs.handle.YuzPool.line.Goals as goal

pub returns-in_default : goal.returns-in_default
returns-in_default c = unopened (Answers c.args.line.now c.args.refusal.now c.args.refusal.now c.args.size.now) _ _ c.in_default.ensures.taken c.in_default.ensures.left
