use Rattle.tree.proofs.UpdateLaws.{write_changes}
use Rattle.tree.proofs.objset.updates.write_of.Goals as goal

pub returns-in-Some-clause-changes : goal.returns-in-Some-clause-changes
returns-in-Some-clause-changes c = rw (← c.in-Some.ensures.leaf) (write_changes c.in-Some.leaf c.args.bytes)
