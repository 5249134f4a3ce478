use Rattle.c_api.proofs.host.Host.rename.Goals as goal

pub returns : goal.returns
returns c = c.tell.ensures _ c.ask_rename-request.ensures
