use Rattle.shared_list.proofs.spine.edits.remove_item.Goals as goal

pub returns-clause-ok : goal.returns-clause-ok
returns-clause-ok g c = cc (c.in_ok-item.ensures.ok, c.join.ensures, c.join-2.ensures)

pub returns-clause-item : goal.returns-clause-item
returns-clause-item g c = c.in_ok-item.ensures.item
