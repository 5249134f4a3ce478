use Rattle.c_api.proofs.host.Host.holds.Goals as goal

pub returns : goal.returns
returns c = c.keep_names.ensures _ c.ask_holds-request.ensures
