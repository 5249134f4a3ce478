use Rattle.shared_list.proofs.spine.Spine.append.Goals as goal

pub returns-clause-ok : goal.returns-clause-ok
returns-clause-ok g c = cc (c.self.view_is, c.other.view_is, c.in_ok-pour.ensures.ok)
