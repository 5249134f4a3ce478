use Rattle.c_api.proofs.host.Host.written_since.Goals as goal

pub returns : goal.returns
returns c = c.tell_number_of.ensures _ c.ask_written_since-request.ensures
