use Rattle.std.proofs.Common.{suc, sym, ap, ◌∙◌}
use Rattle.std.specs.Option.{option_map}
use Rattle.node.specs.Node.{inner_part}
use Rattle.tree.specs.Branch.{child_key}
use Rattle.tree.specs.BranchParts.{branch_at}
use Rattle.tree.proofs.Branches.{sound_kid, kept_kid, children}
use Rattle.tree.proofs.subtree.child_at.Goals as goal

pub kid_of-requires-clause-sound : goal.kid_of-requires-clause-sound
kid_of-requires-clause-sound g c = sound_kid g.C.Level.height c.args.place (inner_part g.C.Level.part c.args.node.now) _ c.requires.sound
    (kept_kid g.C.Level.part c.args.node.now.kids c.args.place _ _ c.owner.ensures c.in_ok-keep.ensures)

pub returns : goal.returns
returns g c =
    c.kid_of.ensures
    ∙ ap (option_map (branch_at (child_key c.args.key c.args.place))) (kept_kid g.C.Level.part c.args.node.now.kids c.args.place _ _ c.owner.ensures c.in_ok-keep.ensures)
    ∙ sym (children (suc g.C.Level.height) c.args.place c.args.key (inner_part g.C.Level.part c.args.node.now) c.requires.level c.requires.sound c.requires.place)
