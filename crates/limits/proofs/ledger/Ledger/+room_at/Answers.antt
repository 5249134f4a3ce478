use Rattle.std.proofs.Common.{◌+◌, ◌-◌, sym, ap, ◌∙◌, arith}
use Rattle.std.specs.Option.{option_copied}
use Rattle.model.specs.Sums.{within_quota}
use Rattle.limits.proofs.Names.{level_up}
use Rattle.limits.specs.Lines.{used_in}
use Rattle.limits.proofs.Rooms.{parent_stands, few_slashes, line_found, root_room, child_room}
use Rattle.limits.proofs.ledger.Ledger.+room_at.Goals as goal
use Rattle.limits.proofs.ledger.Ledger.+room_at.Goals.{in-Some, in-None}

pub room_at-requires : goal.room_at-requires
room_at-requires t c =
    let e = sym c.parent_of.ensures ∙ ap (λ x. option_copied x) c.in-Some.is in
    let u = level_up c.args.name.now c.in-Some.parent.now e in
    (omega (arith, u, c.decreases), (parent_stands c.args.table.now c.facts.ensures.good.hierarchy c.args.name.now c.in-Some.parent.now c.requires.there e, c.requires.own))

pub overflow_add-room : goal.overflow_add-room
overflow_add-room t c =
    let e = sym c.parent_of.ensures ∙ ap (λ x. option_copied x) c.in-Some.is in
    let p = parent_stands c.args.table.now c.facts.ensures.good.hierarchy c.args.name.now c.in-Some.parent.now c.requires.there e in
    let f = few_slashes c.args.table.now c.facts.ensures.good.hierarchy c.in-Some.parent.now p in
    omega (arith, f, c.room_at.ensures.most, c.unspent.ensures.most)

pub returns-clause-value : goal.returns-clause-value
returns-clause-value t c = λ s same of.
    let f = line_found c.args.table.now c.args.name.now c.line-line.result.now c.requires.there c.line-line.ensures.value in
    elim c.match-parent_of.branch [
      | in-Some w ↦
          let e = sym c.parent_of.ensures ∙ ap (λ x. option_copied x) w.in-Some.is in
          c.within_quota.ensures.value
          ∙ ap (within_quota c.line-line.result.now.account.limits.quota (used_in c.line-line.result.now)) (w.room-is ∙ ap (λ n. w.room_at.result + n) w.unspent.ensures.value)
          ∙ sym (child_room c.args.table.now c.facts.ensures.good.hierarchy c.args.name.now f.0 f.1 c.line-line.result.now f.2 s same
          w.in-Some.parent.now e w.room_at.result (w.room_at.ensures.value s same of))
      | in-None w ↦
          let e = sym c.parent_of.ensures ∙ ap (λ x. option_copied x) w.in-None.is in
          c.within_quota.ensures.value
          ∙ ap (within_quota c.line-line.result.now.account.limits.quota (used_in c.line-line.result.now)) (w.room-is ∙ w.left-room.ensures.value
          ∙ ap (λ n. c.args.space.now.size - n - c.args.space.now.freeing - c.args.space.now.waiting) w.used.ensures)
          ∙ sym (root_room c.args.table.now c.facts.ensures.good.hierarchy c.args.name.now f.0 f.1 c.line-line.result.now f.2 s same c.args.space.now of e)
    ]

pub returns-clause-most : goal.returns-clause-most
returns-clause-most t c =
    elim c.match-parent_of.branch [
      | in-Some w ↦
          let e = sym c.parent_of.ensures ∙ ap (λ x. option_copied x) w.in-Some.is in
          let u = level_up c.args.name.now w.in-Some.parent.now e in
          omega (arith, u, c.within_quota.ensures.most, w.room-is, w.room_at.ensures.most, w.unspent.ensures.most)
      | in-None w ↦ omega (arith, c.within_quota.ensures.most, w.room-is, w.left-room.ensures.most)
    ]
