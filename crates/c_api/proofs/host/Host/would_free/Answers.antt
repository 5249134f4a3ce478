use Rattle.c_api.proofs.host.Host.would_free.Goals as goal

pub returns : goal.returns
returns c = c.tell_number_of.ensures _ c.ask_would_free-request.ensures
