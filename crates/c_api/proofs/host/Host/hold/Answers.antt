use Rattle.c_api.proofs.host.Host.hold.Goals as goal

pub returns : goal.returns
returns c = c.tell.ensures _ c.ask_hold-request.ensures
