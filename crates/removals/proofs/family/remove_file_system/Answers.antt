use Rattle.std.proofs.Common.{Ok, sym, ap, subst, ◌∙◌}
use Rattle.base.specs.Map.{BlockSet, blocks}
use Rattle.base.specs.declared.refusal.Refusal.{Refusal}
use Rattle.world.specs.Blocks.{after}
use Rattle.world.specs.Sets.{AreDisjoint}
use Rattle.world.specs.Tables.{Datasets, without_system, lost_between}
use Rattle.removals.proofs.Losses.{lost_apart}
use Rattle.removals.proofs.FamilyGone.{lost_gone}
use Rattle.removals.proofs.family.remove_file_system.Goals as goal

pub add_tree-requires-clause-apart : goal.add_tree-requires-clause-apart
add_tree-requires-clause-apart c =
    subst (λ (s : BlockSet). AreDisjoint c.args.freeing.now s) (sym c.in_ok-lost.ensures.lost.blocks_are)
    (lost_apart c.args.table.now (without_system c.args.table.now c.args.name.now) c.args.freeing.now c.requires.apart)

pub returns-clause-lost : goal.returns-clause-lost
returns-clause-lost c =
    lost_gone {T = Unit {0}} {E = Refusal} (Ok (tt {0})) c.args.table.now c.remove.new.self c.args.freeing.now c.add_tree.new.self (after c.in_ok-lost.lost.after.0 (blocks c.in_ok-lost.lost.tree))
    c.facts.ensures.good c.requires.apart c.args.name.now c.remove.ensures
    (c.in_ok-lost.ensures.lost.blocks_are ∙ ap (λ (u : Datasets). lost_between c.args.table.now u) (sym c.remove.ensures)) c.in_ok-add_tree.ensures.ok
