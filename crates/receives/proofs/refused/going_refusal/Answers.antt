use Rattle.std.proofs.Common.{Option, Some, None, cond, length, sym, ap, ◌∙◌}
use Rattle.std.specs.List.{list_any}
use Rattle.base.specs.declared.refusal.Refusal.{Refusal}
use Rattle.base.specs.declared.refusal.Refusal.TheVariants.{TooMany}
use Rattle.model.specs.requests.Receive.{has_no_room}
use Rattle.model.specs.requests.Rollback.{snaps_after}
use Rattle.world.specs.Tables.{world_of}
use Rattle.world.proofs.lineage.Bridge.{start, rising}
use Rattle.removals.specs.Needs.{is_held_after, has_clone_and_is_later}
use Rattle.receives.proofs.Leaving.{going_is, not_going, room_says}
use Rattle.receives.proofs.refused.going_refusal.Goals as goal

pub count_after-requires : goal.count_after-requires
count_after-requires c =
    let t = c.args.table.now in
    let f = c.args.file_system.now in
    ((start t.file_systems t.group c.facts.ensures.good.lines f.name f.system c.requires.there).base, rising t.file_systems t.group c.facts.ensures.good.lines f.name f.system c.requires.there)

pub returns-in-Some : goal.returns-in-Some
returns-in-Some c =
    let t = c.args.table.now in
    let f = c.args.file_system.now in
    let g = c.args.group.0 in
    not_going (list_any (is_held_after c.args.views.now.opened g) f.system.snaps) (list_any (has_clone_and_is_later t g) f.system.snaps) (has_no_room (world_of t) (length (snaps_after f.system g)))
    c.in-Some.refusal (sym c.refusal_after.ensures ∙ c.in-Some.is)
    ∙ sym (going_is t c.facts.ensures.good f.name f.system c.requires.there c.args.views.now.opened g)

pub returns-then-has_no_room : goal.returns-then-has_no_room
returns-then-has_no_room c =
    let t = c.args.table.now in
    let f = c.args.file_system.now in
    let g = c.args.group.0 in
    ap (λ b. cond b (Some TooMany) None) (sym c.if-has_no_room.true ∙ c.has_no_room.ensures ∙ ap (has_no_room (world_of t)) c.count_after.ensures)
    ∙ room_says (list_any (is_held_after c.args.views.now.opened g) f.system.snaps) (list_any (has_clone_and_is_later t g) f.system.snaps) (has_no_room (world_of t) (length (snaps_after f.system g)))
    (sym c.refusal_after.ensures ∙ c.in_default.is)
    ∙ sym (going_is t c.facts.ensures.good f.name f.system c.requires.there c.args.views.now.opened g)

pub returns : goal.returns
returns c =
    let t = c.args.table.now in
    let f = c.args.file_system.now in
    let g = c.args.group.0 in
    ap (λ b. cond {A = Option Refusal} b (Some TooMany) None) (sym c.if-has_no_room.false ∙ c.has_no_room.ensures ∙ ap (has_no_room (world_of t)) c.count_after.ensures)
    ∙ room_says (list_any (is_held_after c.args.views.now.opened g) f.system.snaps) (list_any (has_clone_and_is_later t g) f.system.snaps) (has_no_room (world_of t) (length (snaps_after f.system g)))
    (sym c.refusal_after.ensures ∙ c.in_default.is)
    ∙ sym (going_is t c.facts.ensures.good f.name f.system c.requires.there c.args.views.now.opened g)
