use Rattle.shared_list.proofs.list.SharedList.remove.Goals as goal

pub returns-clause-ok : goal.returns-clause-ok
returns-clause-ok g c = cc (c.self.view_is, c.place_of-k.ensures.index, c.in_ok-_gone.ensures.ok)
