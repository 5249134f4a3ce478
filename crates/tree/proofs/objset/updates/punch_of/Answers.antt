use Rattle.tree.proofs.UpdateLaws.{punch_changes}
use Rattle.tree.proofs.objset.updates.punch_of.Goals as goal

pub returns-in-Some-clause-changes : goal.returns-in-Some-clause-changes
returns-in-Some-clause-changes c = rw (← c.in-Some.ensures.leaf) (punch_changes c.in-Some.leaf)
