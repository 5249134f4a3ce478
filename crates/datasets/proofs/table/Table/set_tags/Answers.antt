use Rattle.std.proofs.Common.{◌≡◌, refl, subst}
use Rattle.std.specs.Prelude.{OnOk}
use Rattle.std.specs.Arc.{arc_value}
use Rattle.model.specs.Ids.{snap_id}
use Rattle.world.specs.Tables.{Datasets, tagged_snap}
use Rattle.file_system.specs.Deferred.{with_tags}
use Rattle.datasets.proofs.Removed.{is_there, told_there, all_above}
use Rattle.datasets.proofs.Marked.{tagging, names_stay, table_marked, is_marked}
use Rattle.datasets.proofs.table.Table.set_tags.Goals as goal

pub set_tags-requires-clause-there : goal.set_tags-requires-clause-there
set_tags-requires-clause-there c = told_there (record { file_systems = c.self.inside.systems; group = c.self.inside.group.0 }) c.self.invariant c.args.file_system.now (snap_id c.args.id) (is_there _ _ _ _ _ c.self.view_is c.has_snapshot_in.ensures c.if-not-has_snapshot_in.false)

pub set_tags-requires-clause-above : goal.set_tags-requires-clause-above
set_tags-requires-clause-above c = all_above (record { file_systems = c.self.inside.systems; group = c.self.inside.group.0 }) c.self.invariant c.args.file_system.now

pub invariant_of-self : goal.invariant_of-self
invariant_of-self c = table_marked (tagging (arc_value c.args.tags)) (record { file_systems = c.self.inside.systems; group = c.self.inside.group.0 }) c.self.invariant c.args.file_system.now (snap_id c.args.id) (is_there _ _ _ _ _ c.self.view_is c.has_snapshot_in.ensures c.if-not-has_snapshot_in.false) c.set_tags.result c.set_tags.new.self c.set_tags.ensures.ok
    (names_stay (with_tags (arc_value c.args.tags)) (λ v. refl) (record { file_systems = c.self.inside.systems; group = c.self.inside.group.0 }) c.self.invariant c.args.file_system.now) c.set_tags.ensures.err

pub returns-clause-ok : goal.returns-clause-ok
returns-clause-ok c =
    subst (λ (t : Datasets). OnOk c.set_tags.result (record { file_systems = c.set_tags.new.self; group = c.self.inside.group.0 } ≡ tagged_snap t (snap_id c.args.id) (arc_value c.args.tags))) c.self.view_is
    (is_marked (tagging (arc_value c.args.tags)) (record { file_systems = c.self.inside.systems; group = c.self.inside.group.0 }) c.self.invariant c.args.file_system.now (snap_id c.args.id) (is_there _ _ _ _ _ c.self.view_is c.has_snapshot_in.ensures c.if-not-has_snapshot_in.false) c.set_tags.result c.set_tags.new.self c.set_tags.ensures.ok)
