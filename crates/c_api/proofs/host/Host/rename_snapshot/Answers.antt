use Rattle.c_api.proofs.host.Host.rename_snapshot.Goals as goal

pub returns : goal.returns
returns c = c.tell.ensures _ c.ask_rename_snapshot-request.ensures
