use Rattle.std.proofs.Common.{◌≡◌, None, sym, subst}
use Rattle.std.specs.Prelude.{OnOk}
use Rattle.model.specs.Ids.{snap_id}
use Rattle.world.specs.Tables.{Datasets}
use Rattle.base.specs.Names.{same_name}
use Rattle.std.specs.List.{find}
use Rattle.model.specs.World.{Snap}
use Rattle.file_system.specs.Rows.{snaps_at}
use Rattle.datasets.specs.Renames.{with_snap_named}
use Rattle.file_system.specs.Deferred.{edited_of, with_snap_name}
use Rattle.datasets.proofs.Kept.{is_added}
use Rattle.datasets.proofs.Removed.{is_there, told_there, all_above}
use Rattle.datasets.proofs.Marked.{naming, names_new, table_marked}
use Rattle.datasets.proofs.table.Table.rename_snapshot.Goals as goal

pub rename_snapshot-requires-clause-there : goal.rename_snapshot-requires-clause-there
rename_snapshot-requires-clause-there c = told_there (record { file_systems = c.self.inside.systems; group = c.self.inside.group.0 }) c.self.invariant c.args.file_system.now (snap_id c.args.id) (is_there _ _ _ _ _ c.self.view_is c.has_snapshot_in.ensures c.if-not-has_snapshot_in.false)

pub rename_snapshot-requires-clause-above : goal.rename_snapshot-requires-clause-above
rename_snapshot-requires-clause-above c = all_above (record { file_systems = c.self.inside.systems; group = c.self.inside.group.0 }) c.self.invariant c.args.file_system.now

pub invariant_of-self : goal.invariant_of-self
invariant_of-self c = table_marked (naming c.args.to.now) (record { file_systems = c.self.inside.systems; group = c.self.inside.group.0 }) c.self.invariant c.args.file_system.now (snap_id c.args.id) (is_there _ _ _ _ _ c.self.view_is c.has_snapshot_in.ensures c.if-not-has_snapshot_in.false) c.rename_snapshot.result c.rename_snapshot.new.self c.rename_snapshot.ensures.ok
    (λ g. names_new c.args.to.now (record { file_systems = c.self.inside.systems; group = c.self.inside.group.0 }) c.self.invariant c.args.file_system.now g
    (subst (λ (t : Datasets). find (λ (v : Snap). same_name v.name c.args.to.now) (snaps_at t.file_systems c.args.file_system.now) ≡ None) (sym c.self.view_is) c.requires.free)) c.rename_snapshot.ensures.err

pub returns-clause-ok : goal.returns-clause-ok
returns-clause-ok c =
    subst (λ (t : Datasets). OnOk c.rename_snapshot.result (record { file_systems = c.rename_snapshot.new.self; group = c.self.inside.group.0 } ≡ with_snap_named t c.args.file_system.now c.args.id.group.0 c.args.to.now)) c.self.view_is
    (is_added (record { file_systems = c.self.inside.systems; group = c.self.inside.group.0 }) c.rename_snapshot.result c.rename_snapshot.new.self
    (edited_of (with_snap_name c.args.to.now) c.self.inside.systems c.args.file_system.now c.args.id.group.0) c.rename_snapshot.ensures.ok)
