use Rattle.c_api.proofs.Handles.{there, made, unmade}
use Rattle.c_api.proofs.handle.YuzPool.create.Goals as goal

pub returns-in-Some : goal.returns-in-Some
returns-in-Some c = there _ _ _ _ _ c.in-Some.host.value c.in-Some.ensures.taken c.put.ensures

pub returns-in-Ok : goal.returns-in-Ok
returns-in-Ok c = made _ _ _ _ _ c.in-Ok.host.value c.in_default.ensures.taken c.put-in-Ok.ensures c.in-Ok.ensures.can c.in-Ok.ensures.fresh

pub returns-in-Err : goal.returns-in-Err
returns-in-Err c = unmade _ _ _ _ _ c.in-Err.refusal c.in_default.ensures.taken c.in_default.ensures.left c.in-Err.ensures.err
