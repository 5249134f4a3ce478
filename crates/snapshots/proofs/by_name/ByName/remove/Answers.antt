use Rattle.shared_list.specs.Elements.{flattened}
use Rattle.snapshots.proofs.Cuts.{taken, not_past}
use Rattle.snapshots.proofs.by_name.ByName.remove.Goals as goal

pub unreachable-requires : goal.unreachable-requires
unreachable-requires c = not_past c.self.inside.chunks c.args.self.now c.self.view_is c.self.invariant c.args.name.now c.in_default.ensures.place c.requires

pub invariant_of-self-2 : goal.invariant_of-self-2
invariant_of-self-2 c =
    let at = c.in-Some.ensures in
    (taken c.self.inside.chunks c.args.self.now c.self.view_is c.self.invariant c.args.name.now c.in-Some.place at.item at.place c.requires (flattened c.remove_item.new.chunks) c.in_ok-_gone.ensures.ok).rises

pub returns-clause-ok : goal.returns-clause-ok
returns-clause-ok c =
    let at = c.in-Some.ensures in
    (taken c.self.inside.chunks c.args.self.now c.self.view_is c.self.invariant c.args.name.now c.in-Some.place at.item at.place c.requires (flattened c.remove_item.new.chunks) c.in_ok-_gone.ensures.ok).finds
