use Rattle.std.proofs.Common.{sym, subst}
use Rattle.base.specs.Map.{BlockSet, blocks}
use Rattle.world.specs.Blocks.{after}
use Rattle.world.specs.Sets.{AreDisjoint}
use Rattle.removals.proofs.Losses.{lost_apart, lost_back}
use Rattle.removals.proofs.working_copy.WorkingCopy.lose_live.Goals as goal

pub add_tree-requires-clause-apart : goal.add_tree-requires-clause-apart
add_tree-requires-clause-apart c =
    subst (λ (s : BlockSet). AreDisjoint c.args.self.now.freeing s) (sym c.in_ok-lost.ensures.lost.blocks_are)
    (lost_apart c.args.self.now.to c.rollback.new.self c.args.self.now.freeing c.requires.apart)

pub returns-clause-lost : goal.returns-clause-lost
returns-clause-lost c =
    lost_back c.add_tree.result c.args.self.now.to c.rollback.new.self c.args.self.now.freeing c.add_tree.new.self (after c.in_ok-lost.lost.after.0 (blocks c.in_ok-lost.lost.tree))
    c.facts.ensures.good c.requires.apart c.args.name.now c.in_ok-lost.ensures.ok c.in_ok-lost.ensures.lost.blocks_are c.add_tree.ensures.ok
