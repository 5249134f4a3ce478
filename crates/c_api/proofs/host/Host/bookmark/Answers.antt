use Rattle.c_api.proofs.host.Host.bookmark.Goals as goal

pub returns : goal.returns
returns c = c.tell.ensures _ c.ask_bookmark-request.ensures
