use Rattle.c_api.proofs.host.Host.release.Goals as goal

pub returns : goal.returns
returns c = c.tell.ensures _ c.ask_release-request.ensures
