use Rattle.c_api.proofs.host.Host.promote.Goals as goal

pub returns : goal.returns
returns c = c.tell.ensures _ c.ask_promote-request.ensures
