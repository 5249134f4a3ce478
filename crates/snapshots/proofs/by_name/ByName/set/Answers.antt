use Rattle.std.proofs.Common.{sym, subst}
use Rattle.std.specs.List.{find}
use Rattle.std.specs.Option.{IsSome}
use Rattle.shared_list.specs.Elements.{flattened}
use Rattle.snapshots.specs.Order.{is_named}
use Rattle.snapshots.proofs.Cuts.{set_in, not_past}
use Rattle.snapshots.proofs.by_name.ByName.set.Goals as goal

pub unreachable-requires : goal.unreachable-requires
unreachable-requires c =
    not_past c.self.inside.chunks c.args.self.now c.self.view_is c.self.invariant c.name_of.result.now c.in_default.ensures.place (subst (λ n. IsSome (find (is_named n) c.args.self.now)) (sym c.name_of.ensures) c.requires)

pub invariant_of-self-2 : goal.invariant_of-self-2
invariant_of-self-2 c =
    let at = c.in-Some.ensures in
    (set_in c.self.inside.chunks c.args.self.now c.self.view_is c.self.invariant c.name_of.result.now c.in-Some.place at.item at.place c.args.kept.value c.name_of.ensures c.requires (flattened c.set_item.new.chunks) c.in_ok-set_item.ensures.ok).rises

pub returns-clause-ok : goal.returns-clause-ok
returns-clause-ok c =
    let at = c.in-Some.ensures in
    (set_in c.self.inside.chunks c.args.self.now c.self.view_is c.self.invariant c.name_of.result.now c.in-Some.place at.item at.place c.args.kept.value c.name_of.ensures c.requires (flattened c.set_item.new.chunks) c.in_ok-set_item.ensures.ok).finds
