use Rattle.std.proofs.Common.{◌≡◌, true, false}
use Rattle.shared_list.specs.Elements.{flattened}
use Rattle.snapshots.specs.Order.{is_named}
use Rattle.snapshots.proofs.Cuts.{put_in, put_none, put_end}
use Rattle.snapshots.proofs.by_name.ByName.insert.Goals as goal

pub invariant_of-self-in_default : goal.invariant_of-self-in_default
invariant_of-self-in_default c =
    (put_end c.self.inside.chunks c.args.self.now c.self.view_is c.self.invariant c.name_of-name.result.now c.in_default.ensures.place c.args.kept.value (flattened c.push_item.new.chunks) c.name_of-name.ensures c.in_ok-push_item.ensures.ok).rises

pub returns-in_default-clause-ok : goal.returns-in_default-clause-ok
returns-in_default-clause-ok c =
    (put_end c.self.inside.chunks c.args.self.now c.self.view_is c.self.invariant c.name_of-name.result.now c.in_default.ensures.place c.args.kept.value (flattened c.push_item.new.chunks) c.name_of-name.ensures c.in_ok-push_item.ensures.ok).finds

pub returns-then-has_name-clause-ok : goal.returns-then-has_name-clause-ok
returns-then-has_name-clause-ok c =
    let named : is_named c.name_of-name.result.now c.item_at.result.now ≡ true = cc (c.has_name.ensures, c.if-has_name.true) in
    let at = c.in-Some.ensures in
    (put_none c.self.inside.chunks c.args.self.now c.self.view_is c.self.invariant c.name_of-name.result.now c.in-Some.place at.item at.place c.item_at.result.now c.args.kept.value c.item_at.ensures c.name_of-name.ensures named).finds

pub invariant_of-self-2 : goal.invariant_of-self-2
invariant_of-self-2 c =
    let other : is_named c.name_of-name.result.now c.item_at.result.now ≡ false = cc (c.has_name.ensures, c.if-has_name.false) in
    let at = c.in-Some.ensures in
    (put_in c.self.inside.chunks c.args.self.now c.self.view_is c.self.invariant c.name_of-name.result.now c.in-Some.place at.item at.place c.item_at.result.now c.args.kept.value c.item_at.ensures c.name_of-name.ensures other (flattened c.insert_item.new.chunks) c.in_ok-insert_item.ensures.ok).rises

pub returns-clause-ok : goal.returns-clause-ok
returns-clause-ok c =
    let other : is_named c.name_of-name.result.now c.item_at.result.now ≡ false = cc (c.has_name.ensures, c.if-has_name.false) in
    let at = c.in-Some.ensures in
    (put_in c.self.inside.chunks c.args.self.now c.self.view_is c.self.invariant c.name_of-name.result.now c.in-Some.place at.item at.place c.item_at.result.now c.args.kept.value c.item_at.ensures c.name_of-name.ensures other (flattened c.insert_item.new.chunks) c.in_ok-insert_item.ensures.ok).finds
