use Rattle.c_api.proofs.host.Host.snapshot.Goals as goal

pub returns : goal.returns
returns c = c.tell.ensures _ c.ask_snapshot-request.ensures
