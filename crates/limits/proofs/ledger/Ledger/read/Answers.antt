use Rattle.std.proofs.Common.{length, get_or, ap, subst, ◌∙◌, arith}
use Rattle.std.specs.List.{All}
use Rattle.world.specs.Tables.{world_of}
use Rattle.limits.specs.Changes.{IsModest}
use Rattle.limits.proofs.Places.{row_at}
use Rattle.limits.proofs.Reading.{in_lines, was_little, read_behind, can_read}
use Rattle.limits.proofs.Rows.{found_row, row_own}
use Rattle.limits.proofs.ledger.Ledger.read.Goals as goal

pub account_of-requires : goal.account_of-requires
account_of-requires c =
    let row = row_at c.args.table.now.file_systems c.file_systems.result.now c.file_systems.ensures c.args.name.now c.args.place c.index-file_systems-place.result c.requires.there
    c.index-file_systems-place.is c.deref-file_system.result.now c.deref-file_system.ensures in
    let f = found_row c.args.table.now c.args.name.now c.deref-file_system.result.now row in
    let o = row_own c.args.table.now c.facts.ensures.good c.deref-file_system.result.now f.0 in
    omega (arith, o, c.requires.few)

pub settle_at-requires-clause-can : goal.settle_at-requires-clause-can
settle_at-requires-clause-can c =
    let own = c.requires.own in
    let t = c.args.table.now in
    let row = row_at t.file_systems c.file_systems.result.now c.file_systems.ensures c.args.name.now c.args.place c.index-file_systems-place.result c.requires.there
    c.index-file_systems-place.is c.deref-file_system.result.now c.deref-file_system.ensures in
    let f = found_row t c.args.name.now c.deref-file_system.result.now row in
    can_read own.0 own.1 t c.args.name.now own.3 c.make_line.new.self (c.make_line.ensures.lines own.0 own.2 own.3) c.args.place c.requires.there c.deref-file_system.result.now f.0 f.1 c.account_of.result
    (c.account_of.ensures.value t c.facts.ensures.good f.0) c.index.result.now (c.index.ensures ∙ ap (λ ls. get_or ls c.args.place c.index.result.now) c.self.view_is)
    (subst (All IsModest) own.2 c.make_line.ensures.modest) c.account_of.ensures.small c.account_of.ensures.modest

pub settle_at-requires-clause-little : goal.settle_at-requires-clause-little
settle_at-requires-clause-little c =
    let own = c.requires.own in
    was_little own.0 own.1 c.args.table.now c.args.name.now own.3 c.make_line.new.self (c.make_line.ensures.lines own.0 own.2 own.3) c.args.place c.requires.there
    (subst (All IsModest) own.2 c.make_line.ensures.modest)

pub index-requires : goal.index-requires
index-requires c =
    let own = c.requires.own in
    let l = in_lines own.0 own.1 c.args.table.now c.args.name.now own.3 c.make_line.new.self (c.make_line.ensures.lines own.0 own.2 own.3) c.args.place c.requires.there in
    let v = ap length c.self.view_is in
    let o = c.self.inside.lines.ok.0 in
    omega (arith, l, v, o)

pub returns : goal.returns
returns c =
    let own = c.requires.own in
    let t = c.args.table.now in
    let row = row_at t.file_systems c.file_systems.result.now c.file_systems.ensures c.args.name.now c.args.place c.index-file_systems-place.result c.requires.there
    c.index-file_systems-place.is c.deref-file_system.result.now c.deref-file_system.ensures in
    let f = found_row t c.args.name.now c.deref-file_system.result.now row in
    c.settle_at.ensures (world_of t)
    (read_behind own.0 own.1 t c.args.name.now own.3 c.make_line.new.self (c.make_line.ensures.lines own.0 own.2 own.3) c.args.place c.requires.there c.deref-file_system.result.now f.0 f.1 c.account_of.result
    (c.account_of.ensures.value t c.facts.ensures.good f.0) c.index.result.now (c.index.ensures ∙ ap (λ ls. get_or ls c.args.place c.index.result.now) c.self.view_is))
