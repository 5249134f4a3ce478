use Rattle.tree.proofs.UpdateLaws.{free_changes}
use Rattle.tree.proofs.objset.updates.free_of.Goals as goal

pub returns-clause-changes : goal.returns-clause-changes
returns-clause-changes c = free_changes c.args.object
