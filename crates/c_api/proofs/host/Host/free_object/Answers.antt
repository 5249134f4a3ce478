use Rattle.c_api.proofs.host.Host.free_object.Goals as goal

pub returns : goal.returns
returns c = c.tell.ensures _ c.ask_free_object-request.ensures
