use Rattle.std.proofs.Common.{◌≡◌, refl, subst}
use Rattle.std.specs.Prelude.{OnOk}
use Rattle.model.specs.Ids.{snap_id}
use Rattle.world.specs.Tables.{Datasets, deferred_snap}
use Rattle.file_system.specs.Deferred.{with_deferred}
use Rattle.datasets.proofs.Removed.{is_there, told_there, all_above}
use Rattle.datasets.proofs.Marked.{deferral, names_stay, table_marked, is_marked}
use Rattle.datasets.proofs.table.Table.defer.Goals as goal

pub defer-requires-clause-there : goal.defer-requires-clause-there
defer-requires-clause-there c = told_there (record { file_systems = c.self.inside.systems; group = c.self.inside.group.0 }) c.self.invariant c.args.file_system.now (snap_id c.args.id) (is_there _ _ _ _ _ c.self.view_is c.has_snapshot_in.ensures c.if-not-has_snapshot_in.false)

pub defer-requires-clause-above : goal.defer-requires-clause-above
defer-requires-clause-above c = all_above (record { file_systems = c.self.inside.systems; group = c.self.inside.group.0 }) c.self.invariant c.args.file_system.now

pub invariant_of-self : goal.invariant_of-self
invariant_of-self c = table_marked deferral (record { file_systems = c.self.inside.systems; group = c.self.inside.group.0 }) c.self.invariant c.args.file_system.now (snap_id c.args.id) (is_there _ _ _ _ _ c.self.view_is c.has_snapshot_in.ensures c.if-not-has_snapshot_in.false) c.defer.result c.defer.new.self c.defer.ensures.ok
    (names_stay with_deferred (λ v. refl) (record { file_systems = c.self.inside.systems; group = c.self.inside.group.0 }) c.self.invariant c.args.file_system.now) c.defer.ensures.err

pub returns-clause-ok : goal.returns-clause-ok
returns-clause-ok c =
    subst (λ (t : Datasets). OnOk c.defer.result (record { file_systems = c.defer.new.self; group = c.self.inside.group.0 } ≡ deferred_snap t (snap_id c.args.id))) c.self.view_is
    (is_marked deferral (record { file_systems = c.self.inside.systems; group = c.self.inside.group.0 }) c.self.invariant c.args.file_system.now (snap_id c.args.id) (is_there _ _ _ _ _ c.self.view_is c.has_snapshot_in.ensures c.if-not-has_snapshot_in.false) c.defer.result c.defer.new.self c.defer.ensures.ok)
