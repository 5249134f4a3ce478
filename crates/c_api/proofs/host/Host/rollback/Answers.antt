use Rattle.c_api.proofs.host.Host.rollback.Goals as goal

pub returns : goal.returns
returns c = c.tell.ensures _ c.ask_rollback-request.ensures
