use Rattle.shared_list.proofs.spine.Spine.split_off.Goals as goal

pub returns-clause-ok : goal.returns-clause-ok
returns-clause-ok g c = cc (c.self.view_is, c.in_ok-chunks.ensures.ok)

pub returns-clause-rest : goal.returns-clause-rest
returns-clause-rest g c = cc (c.self.view_is, c.in_ok-chunks.ensures.rest)
