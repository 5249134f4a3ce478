use Rattle.std.proofs.Common.{map, refl, sym, ap, subst, ◌∙◌}
use Rattle.std.specs.Prelude.{IsSome, ◌==◌}
use Rattle.std.specs.Arc.{arc_value}
use Rattle.std.specs.List.{find}
use Rattle.model.specs.World.{Snap}
use Rattle.base.specs.Names.{same_name}
use Rattle.file_system.specs.Deferred.{with_snap_name, edited_at}
use Rattle.file_system.specs.Rows.{Row, entry_in}
use Rattle.file_system.specs.Splices.{AreAbove}
use Rattle.datasets.specs.Places.{IsAt, IsGapFor}
use Rattle.datasets.proofs.Rows.{on_err}
use Rattle.datasets.proofs.Labelled.{not_lent, lent, is_edited, no_snap_in_gap, snaps_here, snap_there, stands_above, tried_sorted, tried_is, tried_same, same_sorted, same_is}
use Rattle.datasets.proofs.file_systems.FileSystems.rename_snapshot.Goals as goal

-- a snapshot isn't of a file system that isn't there
pub unreachable-requires : goal.unreachable-requires
unreachable-requires c =
    let gap : IsGapFor (map entry_in c.self.inside.rows.items) c.args.name.now c.in_default.field-0 = rw (← c.deref.ensures.value, ← c.as_bytes.ensures.value) c.in_default.ensures.absent in
    no_snap_in_gap c.self.inside c.self.invariant c.args.self.now c.self.view_is c.args.name.now c.in_default.field-0 gap c.args.group.0 c.requires.there

pub rename_snapshot-requires-clause-there : goal.rename_snapshot-requires-clause-there
rename_snapshot-requires-clause-there c =
    let at : IsAt (map entry_in c.self.inside.rows.items) c.args.name.now c.in-Ok.place = rw (← c.deref.ensures.value, ← c.as_bytes.ensures.value) c.in-Ok.ensures.found in
    subst (λ (r : Row). IsSome (find (λ (t : Snap). t.group == c.args.group.0) r.system.snaps)) (sym c.in_ok-file_system.ensures.value)
    (snap_there c.self.inside c.self.invariant c.args.self.now c.self.view_is c.args.name.now c.in-Ok.place at c.index_mut.result.now c.index_mut.ensures.value c.args.group.0 c.requires.there)

pub rename_snapshot-requires-clause-above : goal.rename_snapshot-requires-clause-above
rename_snapshot-requires-clause-above c =
    let at : IsAt (map entry_in c.self.inside.rows.items) c.args.name.now c.in-Ok.place = rw (← c.deref.ensures.value, ← c.as_bytes.ensures.value) c.in-Ok.ensures.found in
    subst (λ (r : Row). AreAbove r.below r.system) (sym c.in_ok-file_system.ensures.value)
    (stands_above c.self.inside c.self.invariant c.args.self.now c.self.view_is c.args.name.now c.in-Ok.place at c.index_mut.result.now c.index_mut.ensures.value c.requires.above)

pub rename_snapshot-requires-clause-free : goal.rename_snapshot-requires-clause-free
rename_snapshot-requires-clause-free c =
    let at : IsAt (map entry_in c.self.inside.rows.items) c.args.name.now c.in-Ok.place = rw (← c.deref.ensures.value, ← c.as_bytes.ensures.value) c.in-Ok.ensures.found in
    ap (λ (r : Row). find (λ (t : Snap). same_name t.name c.args.to.now) r.system.snaps) c.in_ok-file_system.ensures.value
    ∙ ap (find (λ (t : Snap). same_name t.name c.args.to.now)) (sym (snaps_here c.self.inside c.self.invariant c.args.self.now c.self.view_is c.args.name.now c.in-Ok.place at c.index_mut.result.now c.index_mut.ensures.value))
    ∙ c.requires.free

-- where memory was refused the rows are the same
pub invariant_of-self : goal.invariant_of-self
invariant_of-self c =
    let at : IsAt (map entry_in c.self.inside.rows.items) c.args.name.now c.in-Ok.place = rw (← c.deref.ensures.value, ← c.as_bytes.ensures.value) c.in-Ok.ensures.found in
    same_sorted c.self.inside c.self.invariant c.args.self.now c.self.view_is c.args.name.now c.in-Ok.place at c.index_mut.result.now c.index_mut.ensures.value
    c.own.follows.lender-at-none (not_lent c.own.result _ c.in_err-file_system.was c.own.follows.holds-at-none) _ refl refl refl

pub returns-in_err-file_system-clause-err : goal.returns-in_err-file_system-clause-err
returns-in_err-file_system-clause-err c =
    let at : IsAt (map entry_in c.self.inside.rows.items) c.args.name.now c.in-Ok.place = rw (← c.deref.ensures.value, ← c.as_bytes.ensures.value) c.in-Ok.ensures.found in
    on_err c.from_residual.result
    (same_is c.self.inside c.self.invariant c.args.self.now c.self.view_is c.args.name.now c.in-Ok.place at c.index_mut.result.now c.index_mut.ensures.value
    c.own.follows.lender-at-none (not_lent c.own.result _ c.in_err-file_system.was c.own.follows.holds-at-none))

-- the row has other labels, or is the same
pub invariant_of-self-2 : goal.invariant_of-self-2
invariant_of-self-2 c =
    let at : IsAt (map entry_in c.self.inside.rows.items) c.args.name.now c.in-Ok.place = rw (← c.deref.ensures.value, ← c.as_bytes.ensures.value) c.in-Ok.ensures.found in
    tried_sorted c.self.inside c.self.invariant c.args.self.now c.self.view_is c.args.name.now c.in-Ok.place at c.index_mut.result.now c.index_mut.ensures.value
    (λ f. edited_at (with_snap_name c.args.to.now) f c.args.group.0) (is_edited (with_snap_name c.args.to.now) (λ t. refl) (λ t. refl) c.args.group.0 (arc_value c.index_mut.result.now).system) (c.own.follows.lender c.rename_snapshot.new.self) c.rename_snapshot.new.self c.in_ok-file_system.file_system.now
    (lent c.own.result _ c.in_ok-file_system.was (c.own.follows.holds c.rename_snapshot.new.self)) c.in_ok-file_system.ensures.value
    c.rename_snapshot.result c.rename_snapshot.ensures.ok c.rename_snapshot.ensures.err _ refl refl refl

pub returns-clause-ok : goal.returns-clause-ok
returns-clause-ok c =
    let at : IsAt (map entry_in c.self.inside.rows.items) c.args.name.now c.in-Ok.place = rw (← c.deref.ensures.value, ← c.as_bytes.ensures.value) c.in-Ok.ensures.found in
    tried_is c.self.inside c.self.invariant c.args.self.now c.self.view_is c.args.name.now c.in-Ok.place at c.index_mut.result.now c.index_mut.ensures.value
    (λ f. edited_at (with_snap_name c.args.to.now) f c.args.group.0) (is_edited (with_snap_name c.args.to.now) (λ t. refl) (λ t. refl) c.args.group.0 (arc_value c.index_mut.result.now).system) (c.own.follows.lender c.rename_snapshot.new.self) c.rename_snapshot.new.self c.in_ok-file_system.file_system.now
    (lent c.own.result _ c.in_ok-file_system.was (c.own.follows.holds c.rename_snapshot.new.self)) c.in_ok-file_system.ensures.value
    c.rename_snapshot.result c.rename_snapshot.ensures.ok

pub returns-clause-err : goal.returns-clause-err
returns-clause-err c =
    let at : IsAt (map entry_in c.self.inside.rows.items) c.args.name.now c.in-Ok.place = rw (← c.deref.ensures.value, ← c.as_bytes.ensures.value) c.in-Ok.ensures.found in
    tried_same c.self.inside c.self.invariant c.args.self.now c.self.view_is c.args.name.now c.in-Ok.place at c.index_mut.result.now c.index_mut.ensures.value
    (λ f. edited_at (with_snap_name c.args.to.now) f c.args.group.0) (is_edited (with_snap_name c.args.to.now) (λ t. refl) (λ t. refl) c.args.group.0 (arc_value c.index_mut.result.now).system) (c.own.follows.lender c.rename_snapshot.new.self) c.rename_snapshot.new.self c.in_ok-file_system.file_system.now
    (lent c.own.result _ c.in_ok-file_system.was (c.own.follows.holds c.rename_snapshot.new.self)) c.in_ok-file_system.ensures.value
    c.rename_snapshot.result c.rename_snapshot.ensures.err
