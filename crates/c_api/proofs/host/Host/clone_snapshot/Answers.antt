use Rattle.c_api.proofs.host.Host.clone_snapshot.Goals as goal

pub returns : goal.returns
returns c = c.tell.ensures _ c.ask_clone-request.ensures
