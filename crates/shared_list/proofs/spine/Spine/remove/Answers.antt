use Rattle.shared_list.proofs.spine.Spine.remove.Goals as goal

pub returns-clause-ok : goal.returns-clause-ok
returns-clause-ok g c = cc (c.self.view_is, c.deref.ensures.value, c.place_of-k.ensures.index, c.in_ok-_gone.ensures.ok)
