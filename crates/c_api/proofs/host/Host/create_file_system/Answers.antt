use Rattle.c_api.proofs.host.Host.create_file_system.Goals as goal

pub returns : goal.returns
returns c = c.tell.ensures _ c.ask_create-request.ensures
