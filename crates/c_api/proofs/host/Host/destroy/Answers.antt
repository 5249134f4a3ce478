use Rattle.c_api.proofs.host.Host.destroy.Goals as goal

pub returns : goal.returns
returns c = c.tell.ensures _ c.ask_destroy-request.ensures
