use Rattle.shared_list.proofs.spine.Spine.push_shared.Goals as goal

pub returns-clause-ok : goal.returns-clause-ok
returns-clause-ok g c = cc (c.self.view_is, c.in_ok-push_item.ensures.ok)

pub returns-in_default-clause-err : goal.returns-in_default-clause-err
returns-in_default-clause-err g c = cc
