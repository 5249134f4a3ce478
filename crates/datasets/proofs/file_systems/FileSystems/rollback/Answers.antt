use Rattle.std.proofs.Common.{◌≡◌, ◌<◌, List, [], Option, None, length, map, set, refl, ap, sym, subst, ◌∙◌, arith}
use Rattle.std.specs.Prelude.{OnOk}
use Rattle.std.specs.Option.{option_map_or}
use Rattle.std.specs.FinMap.{get, from_sorted}
use Rattle.base.specs.Names.{name_cmp}
use Rattle.model.specs.World.{FileSystem, Snap}
use Rattle.file_system.specs.Losses.{newest_map}
use Rattle.file_system.specs.Rows.{FileSystems, Row, entry_in, snaps_at}
use Rattle.file_system.specs.Splices.{AreAbove}
use Rattle.datasets.specs.Places.{IsAt, IsGapFor}
use Rattle.datasets.proofs.Rows.{on_err, row_of, get_gap, live_is, snaps_are, rolled_live}
use Rattle.datasets.proofs.Ties.{origin_is, below_is}
use Rattle.datasets.proofs.Labelled.{lent, not_lent, stands_above, tried_sorted, tried_is, tried_same, same_sorted, same_is}
use Rattle.datasets.proofs.file_systems.FileSystems.rollback.Goals as goal

-- a snapshot isn't of a file system that isn't there
pub unreachable-requires : goal.unreachable-requires
unreachable-requires c =
    let gap : IsGapFor (map entry_in c.self.inside.rows.items) c.args.name.now c.in_default.field-0 = rw (← c.deref.ensures.value, ← c.as_bytes.ensures.value) c.in_default.ensures.absent in
    let none : get c.args.self.now c.args.name.now ≡ None = rw (← c.self.view_is) (get_gap _ c.self.invariant.sorted c.args.name.now c.in_default.field-0 gap) in
    let empty = ap (λ (o : Option FileSystem). length (option_map_or (λ (f : FileSystem). f.snaps) o [])) none in
    let some = c.requires.there in
    omega arith

pub rollback-requires-clause-there : goal.rollback-requires-clause-there
rollback-requires-clause-there c =
    let at : IsAt (map entry_in c.self.inside.rows.items) c.args.name.now c.in-Ok.place = rw (← c.deref.ensures.value, ← c.as_bytes.ensures.value) c.in-Ok.ensures.found in
    let is = row_of entry_in c.self.inside.rows.items c.in-Ok.place c.index_mut.result.now c.index_mut.ensures.value in
    let snaps = ap (λ m. snaps_at m c.args.name.now) (sym c.self.view_is) ∙ snaps_are _ c.self.invariant.sorted c.args.name.now c.in-Ok.place at (entry_in c.index_mut.result.now) is in
    subst (λ (r : Row). 0 < length r.system.snaps) (sym c.in_ok-file_system.ensures.value) (subst (λ (l : List Snap). 0 < length l) snaps c.requires.there)

pub rollback-requires-clause-above : goal.rollback-requires-clause-above
rollback-requires-clause-above c =
    let at : IsAt (map entry_in c.self.inside.rows.items) c.args.name.now c.in-Ok.place = rw (← c.deref.ensures.value, ← c.as_bytes.ensures.value) c.in-Ok.ensures.found in
    subst (λ (r : Row). AreAbove r.below r.system) (sym c.in_ok-file_system.ensures.value)
    (stands_above c.self.inside c.self.invariant c.args.self.now c.self.view_is c.args.name.now c.in-Ok.place at c.index_mut.result.now c.index_mut.ensures.value c.requires.above)

-- where memory was refused the rows are the same
pub invariant_of-self : goal.invariant_of-self
invariant_of-self c =
    let at : IsAt (map entry_in c.self.inside.rows.items) c.args.name.now c.in-Ok.place = rw (← c.deref.ensures.value, ← c.as_bytes.ensures.value) c.in-Ok.ensures.found in
    same_sorted c.self.inside c.self.invariant c.args.self.now c.self.view_is c.args.name.now c.in-Ok.place at c.index_mut.result.now c.index_mut.ensures.value
    c.own.follows.lender-at-none (not_lent c.own.result _ c.in_err-file_system.was c.own.follows.holds-at-none) _ refl refl refl

pub returns-in_err-file_system-clause-err : goal.returns-in_err-file_system-clause-err
returns-in_err-file_system-clause-err c =
    let at : IsAt (map entry_in c.self.inside.rows.items) c.args.name.now c.in-Ok.place = rw (← c.deref.ensures.value, ← c.as_bytes.ensures.value) c.in-Ok.ensures.found in
    on_err c.from_residual.result
    (same_is c.self.inside c.self.invariant c.args.self.now c.self.view_is c.args.name.now c.in-Ok.place at c.index_mut.result.now c.index_mut.ensures.value
    c.own.follows.lender-at-none (not_lent c.own.result _ c.in_err-file_system.was c.own.follows.holds-at-none))

-- the row has another live map, or is the same
pub invariant_of-self-2 : goal.invariant_of-self-2
invariant_of-self-2 c =
    let at : IsAt (map entry_in c.self.inside.rows.items) c.args.name.now c.in-Ok.place = rw (← c.deref.ensures.value, ← c.as_bytes.ensures.value) c.in-Ok.ensures.found in
    tried_sorted c.self.inside c.self.invariant c.args.self.now c.self.view_is c.args.name.now c.in-Ok.place at c.index_mut.result.now c.index_mut.ensures.value
    (λ f. record f { live = newest_map f.live f.snaps }) (record { origin = refl; count = refl; found = λ id. refl }) (c.own.follows.lender c.rollback.new.self) c.rollback.new.self c.in_ok-file_system.file_system.now
    (lent c.own.result _ c.in_ok-file_system.was (c.own.follows.holds c.rollback.new.self)) c.in_ok-file_system.ensures.value
    c.rollback.result c.rollback.ensures.ok c.rollback.ensures.err _ refl refl refl

pub returns-clause-ok : goal.returns-clause-ok
returns-clause-ok c =
    let at : IsAt (map entry_in c.self.inside.rows.items) c.args.name.now c.in-Ok.place = rw (← c.deref.ensures.value, ← c.as_bytes.ensures.value) c.in-Ok.ensures.found in
    subst (λ (m : FileSystems). OnOk c.rollback.result (from_sorted {R = name_cmp} (map entry_in (set c.self.inside.rows.items c.in-Ok.place (c.own.follows.lender c.rollback.new.self))) ≡ m))
    (rolled_live c.args.self.now c.args.name.now)
    (tried_is c.self.inside c.self.invariant c.args.self.now c.self.view_is c.args.name.now c.in-Ok.place at c.index_mut.result.now c.index_mut.ensures.value
    (λ f. record f { live = newest_map f.live f.snaps }) (record { origin = refl; count = refl; found = λ id. refl }) (c.own.follows.lender c.rollback.new.self) c.rollback.new.self c.in_ok-file_system.file_system.now
    (lent c.own.result _ c.in_ok-file_system.was (c.own.follows.holds c.rollback.new.self)) c.in_ok-file_system.ensures.value
    c.rollback.result c.rollback.ensures.ok)

pub returns-clause-lost : goal.returns-clause-lost
returns-clause-lost c =
    let at : IsAt (map entry_in c.self.inside.rows.items) c.args.name.now c.in-Ok.place = rw (← c.deref.ensures.value, ← c.as_bytes.ensures.value) c.in-Ok.ensures.found in
    let is = row_of entry_in c.self.inside.rows.items c.in-Ok.place c.index_mut.result.now c.index_mut.ensures.value in
    let before = live_is _ c.self.invariant.sorted c.args.name.now c.in-Ok.place at (entry_in c.index_mut.result.now) is in
    let snaps = snaps_are _ c.self.invariant.sorted c.args.name.now c.in-Ok.place at (entry_in c.index_mut.result.now) is in
    let below = below_is c.self.inside.rows.items c.self.invariant.sorted c.self.invariant.tied c.args.name.now c.in-Ok.place at c.index_mut.result.now c.index_mut.ensures.value in
    let origin = origin_is c.self.inside.rows.items c.self.invariant.sorted c.self.invariant.tied c.args.name.now c.in-Ok.place at c.index_mut.result.now c.index_mut.ensures.value in
    rw (← c.self.view_is, before, snaps, below, origin, ← c.in_ok-file_system.ensures.value) c.rollback.ensures.lost

pub returns-clause-err : goal.returns-clause-err
returns-clause-err c =
    let at : IsAt (map entry_in c.self.inside.rows.items) c.args.name.now c.in-Ok.place = rw (← c.deref.ensures.value, ← c.as_bytes.ensures.value) c.in-Ok.ensures.found in
    tried_same c.self.inside c.self.invariant c.args.self.now c.self.view_is c.args.name.now c.in-Ok.place at c.index_mut.result.now c.index_mut.ensures.value
    (λ f. record f { live = newest_map f.live f.snaps }) (record { origin = refl; count = refl; found = λ id. refl }) (c.own.follows.lender c.rollback.new.self) c.rollback.new.self c.in_ok-file_system.file_system.now
    (lent c.own.result _ c.in_ok-file_system.was (c.own.follows.holds c.rollback.new.self)) c.in_ok-file_system.ensures.value
    c.rollback.result c.rollback.ensures.err
