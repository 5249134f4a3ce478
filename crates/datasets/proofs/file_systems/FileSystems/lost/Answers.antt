use Rattle.std.proofs.Common.{◌≡◌, Option, List, None, map, ap, sym, subst, ◌∙◌}
use Rattle.std.specs.Prelude.{IfOk}
use Rattle.std.specs.Arc.{arc_value}
use Rattle.std.specs.FinMap.{get}
use Rattle.base.specs.Map.{Map, blocks}
use Rattle.model.specs.World.{Snap, SnapId}
use Rattle.tree.proofs.Options.{not_some}
use Rattle.file_system.specs.Dead.{IsAbove}
use Rattle.file_system.specs.Losses.{IsLost}
use Rattle.file_system.specs.Origins.{origin_group}
use Rattle.file_system.specs.Rows.{entry_in, Row, live_of, snaps_at}
use Rattle.datasets.specs.Clones.{below_at, origin_at}
use Rattle.datasets.specs.Places.{IsAt, IsGapFor}
use Rattle.datasets.proofs.Rows.{row_of, get_gap, live_is, snaps_are}
use Rattle.datasets.proofs.Ties.{origin_is, below_is}
use Rattle.datasets.proofs.file_systems.FileSystems.lost.Goals as goal

-- the file system is there
pub unreachable-requires : goal.unreachable-requires
unreachable-requires c =
    let gap : IsGapFor (map entry_in c.self.inside.rows.items) c.args.name.now c.in_default.field-0 = rw (← c.deref.ensures.value, ← c.as_bytes.ensures.value) c.in_default.ensures.absent in
    let none : get c.args.self.now c.args.name.now ≡ None = rw (← c.self.view_is) (get_gap _ c.self.invariant.sorted c.args.name.now c.in_default.field-0 gap) in
    not_some (get c.args.self.now c.args.name.now) none c.requires.there

pub lost-requires : goal.lost-requires
lost-requires c =
    let rows = map entry_in c.self.inside.rows.items in
    let row = entry_in c.index.result.now in
    let at : IsAt rows c.args.name.now c.in-Ok.place = rw (← c.deref.ensures.value, ← c.as_bytes.ensures.value) c.in-Ok.ensures.found in
    let is = row_of entry_in c.self.inside.rows.items c.in-Ok.place c.index.result.now c.index.ensures in
    let live = ap (λ m. live_of m c.args.name.now) (sym c.self.view_is) ∙ live_is _ c.self.invariant.sorted c.args.name.now c.in-Ok.place at row is in
    let snaps = ap (λ m. snaps_at m c.args.name.now) (sym c.self.view_is) ∙ snaps_are _ c.self.invariant.sorted c.args.name.now c.in-Ok.place at row is in
    let below = ap (λ m. below_at m c.args.name.now) (sym c.self.view_is) ∙ below_is c.self.inside.rows.items c.self.invariant.sorted c.self.invariant.tied c.args.name.now c.in-Ok.place at c.index.result.now c.index.ensures in
    let origin = ap (λ m. origin_at m c.args.name.now) (sym c.self.view_is) ∙ origin_is c.self.inside.rows.items c.self.invariant.sorted c.self.invariant.tied c.args.name.now c.in-Ok.place at c.index.result.now c.index.ensures in
    let here = arc_value c.index.result.now in
    subst (λ (r : Row). IsAbove (blocks r.below) (origin_group r.system.origin) r.system.live r.system.snaps) (sym c.deref-2.ensures)
    (subst (λ (m : Map). IsAbove (blocks here.below) (origin_group here.system.origin) m here.system.snaps) live
    (subst (λ (l : List Snap). IsAbove (blocks here.below) (origin_group here.system.origin) (live_of c.args.self.now c.args.name.now) l) snaps
    (subst (λ (o : Option SnapId). IsAbove (blocks here.below) (origin_group o) (live_of c.args.self.now c.args.name.now) (snaps_at c.args.self.now c.args.name.now)) origin
    (subst (λ (m : Map). IsAbove (blocks m) (origin_group (origin_at c.args.self.now c.args.name.now)) (live_of c.args.self.now c.args.name.now) (snaps_at c.args.self.now c.args.name.now)) below c.requires.above))))

pub returns-clause-lost : goal.returns-clause-lost
returns-clause-lost c =
    let rows = map entry_in c.self.inside.rows.items in
    let row = entry_in c.index.result.now in
    let at : IsAt rows c.args.name.now c.in-Ok.place = rw (← c.deref.ensures.value, ← c.as_bytes.ensures.value) c.in-Ok.ensures.found in
    let is = row_of entry_in c.self.inside.rows.items c.in-Ok.place c.index.result.now c.index.ensures in
    let live = ap (λ m. live_of m c.args.name.now) (sym c.self.view_is) ∙ live_is _ c.self.invariant.sorted c.args.name.now c.in-Ok.place at row is in
    let snaps = ap (λ m. snaps_at m c.args.name.now) (sym c.self.view_is) ∙ snaps_are _ c.self.invariant.sorted c.args.name.now c.in-Ok.place at row is in
    let below = ap (λ m. below_at m c.args.name.now) (sym c.self.view_is) ∙ below_is c.self.inside.rows.items c.self.invariant.sorted c.self.invariant.tied c.args.name.now c.in-Ok.place at c.index.result.now c.index.ensures in
    let origin = ap (λ m. origin_at m c.args.name.now) (sym c.self.view_is) ∙ origin_is c.self.inside.rows.items c.self.invariant.sorted c.self.invariant.tied c.args.name.now c.in-Ok.place at c.index.result.now c.index.ensures in
    let here = arc_value c.index.result.now in
    subst (λ (l : List Snap). IfOk c.lost.result (IsLost (blocks (below_at c.args.self.now c.args.name.now)) (origin_group (origin_at c.args.self.now c.args.name.now)) (live_of c.args.self.now c.args.name.now) l)) c.requires.bare
    (subst (λ (m : Map). IfOk c.lost.result (IsLost (blocks m) (origin_group (origin_at c.args.self.now c.args.name.now)) (live_of c.args.self.now c.args.name.now) (snaps_at c.args.self.now c.args.name.now))) (sym below)
    (subst (λ (o : Option SnapId). IfOk c.lost.result (IsLost (blocks here.below) (origin_group o) (live_of c.args.self.now c.args.name.now) (snaps_at c.args.self.now c.args.name.now))) (sym origin)
    (subst (λ (l : List Snap). IfOk c.lost.result (IsLost (blocks here.below) (origin_group here.system.origin) (live_of c.args.self.now c.args.name.now) l)) (sym snaps)
    (subst (λ (m : Map). IfOk c.lost.result (IsLost (blocks here.below) (origin_group here.system.origin) m here.system.snaps)) (sym live)
    (subst (λ (r : Row). IfOk c.lost.result (IsLost (blocks r.below) (origin_group r.system.origin) r.system.live r.system.snaps)) c.deref-2.ensures c.lost.ensures.ok)))))
