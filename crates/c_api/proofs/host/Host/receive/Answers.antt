use Rattle.c_api.proofs.Handles.{receives}
use Rattle.c_api.proofs.host.Host.receive.Goals as goal

pub returns : goal.returns
returns c = receives c.args.name.now c.args.bytes.now _ c.mode_of.result c.in-Some.mode _ _ _ c.in-Some.is c.mode_of.ensures.none.1 c.mode_of.ensures.some (λ read it. c.tell.ensures _ (c.ask_receive.ensures read it))
