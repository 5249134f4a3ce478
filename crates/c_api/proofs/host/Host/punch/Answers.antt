use Rattle.c_api.proofs.host.Host.punch.Goals as goal

pub returns : goal.returns
returns c = c.tell.ensures _ c.ask_punch-request.ensures
