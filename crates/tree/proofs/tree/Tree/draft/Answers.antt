use Rattle.tree.proofs.Putting.{drafted_released}
use Rattle.tree.proofs.tree.Tree.draft.Goals as goal

pub returns-clause-released : goal.returns-clause-released
returns-clause-released c = drafted_released c.self.inside.root c.self.inside.count c.self.invariant c.args.self.now c.self.view_is c.args.updates.now c.args.young.0 c.args.allocator.now c.requires.batch c.requires.allocated _ _ c.draft_of.ensures.ok
