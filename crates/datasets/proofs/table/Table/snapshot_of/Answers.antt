use Rattle.std.proofs.Common.{◌≡◌, ◌+◌, Some, sym, ap, subst, ◌∙◌, map, drop}
use Rattle.std.specs.Arc.{arc_value}
use Rattle.file_system.specs.Rows.{Row}
use Rattle.model.specs.Ids.{snap_id}
use Rattle.model.specs.World.{id_of}
use Rattle.datasets.specs.Holders.{IsPlace}
use Rattle.datasets.proofs.Holders.{stands_there}
use Rattle.datasets.proofs.Placed.{placed_in, placed_all, in_own, in_others, first_of_left, row_rising, row_there, row_here}
use Rattle.datasets.proofs.table.Table.snapshot_of.Goals as goal

pub snapshot_of-requires : goal.snapshot_of-requires
snapshot_of-requires c = row_rising (arc_value {X = Row}) c.file_systems-file_system-items.result.now c.loop-file_system.file_system-index c.loop-file_system-test.true
    c.file_system-item.result c.file_system-item.is c.deref.result.now c.deref.ensures c.args.self.now.file_systems c.args.self.now.group c.facts.ensures.good c.file_systems-file_system-items.ensures

pub loop-file_system-init : goal.loop-file_system-init
loop-file_system-init c = placed_all c.args.self.now (snap_id c.args.id) (map (arc_value {X = Row}) c.file_systems-file_system-items.result.now) c.file_systems-file_system-items.ensures

pub returns-in-Some-clause-found : goal.returns-in-Some-clause-found
returns-in-Some-clause-found c =
    let id = snap_id c.args.id in
    let rows = map (arc_value {X = Row}) c.file_systems-file_system-items.result.now in
    let i = c.loop-file_system.file_system-index in
    let r : Row = c.deref.result.now in
    let here = first_of_left (arc_value {X = Row}) c.file_systems-file_system-items.result.now i c.loop-file_system-test.true c.file_system-item.result c.file_system-item.is r c.deref.ensures in
    ap (λ (x : Row). Some (x.name, c.in-Some.snapshot.now)) (c.deref-in-Some.ensures ∙ sym c.deref.ensures)
    ∙ sym (in_own id r (drop (i + 1) rows) c.in-Some.snapshot.now (sym c.in-Some.ensures))
    ∙ sym (ap (placed_in id) here) ∙ c.loop-file_system.invariant

pub returns-in-Some-clause-place : goal.returns-in-Some-clause-place
returns-in-Some-clause-place c =
    let t = c.args.self.now in
    let items = c.file_systems-file_system-items.result.now in
    let i = c.loop-file_system.file_system-index in
    let lt = c.loop-file_system-test.true in
    let x = c.file_system-item.result in
    let row = row_here (arc_value {X = Row}) items i lt x c.file_system-item.is c.deref.result.now c.deref.ensures t.file_systems t.group c.facts.ensures.good c.file_systems-file_system-items.ensures in
    let at = row_there (arc_value {X = Row}) items i lt x c.file_system-item.is c.deref.result.now c.deref.ensures t.file_systems t.group c.facts.ensures.good c.file_systems-file_system-items.ensures in
    subst (λ (r : Row). IsPlace t r (Some c.in-Some.snapshot.now) × (id_of c.in-Some.snapshot.now ≡ snap_id c.args.id)) (c.deref.ensures ∙ sym c.deref-in-Some.ensures)
    (stands_there t (snap_id c.args.id) c.deref.result.now c.in-Some.snapshot.now row at (sym c.in-Some.ensures))

pub loop-file_system-preserved : goal.loop-file_system-preserved
loop-file_system-preserved c =
    let id = snap_id c.args.id in
    let rows = map (arc_value {X = Row}) c.file_systems-file_system-items.result.now in
    let i = c.loop-file_system.file_system-index in
    let r : Row = c.deref.result.now in
    let here = first_of_left (arc_value {X = Row}) c.file_systems-file_system-items.result.now i c.loop-file_system-test.true c.file_system-item.result c.file_system-item.is r c.deref.ensures in
    sym (in_others id r (drop (i + 1) rows) (sym c.in_default.ensures)) ∙ sym (ap (placed_in id) here) ∙ c.loop-file_system.invariant
