use Rattle.removals.proofs.Losses.{lost_none}
use Rattle.removals.proofs.sweep.remove_unneeded_origin.Goals as goal

pub returns-in-None-clause-lost : goal.returns-in-None-clause-lost
returns-in-None-clause-lost c = lost_none c.args.edit.now.to c.args.edit.now.freeing c.requires.apart
