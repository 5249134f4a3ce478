use Rattle.c_api.proofs.Handles.{gets}
use Rattle.c_api.proofs.host.Host.get.Goals as goal

pub returns : goal.returns
returns c = gets _ _ c.in-Some.property _ _ _ _ _ c.in-Some.ensures (c.tell_number_of.ensures _ c.ask_get-request.ensures)
