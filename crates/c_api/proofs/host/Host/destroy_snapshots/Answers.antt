use Rattle.c_api.proofs.host.Host.destroy_snapshots.Goals as goal

pub returns : goal.returns
returns c = c.tell.ensures _ c.ask_destroy_snapshots-request.ensures
