use Rattle.std.proofs.Common.{◌≡◌, sym, subst, map}
use Rattle.std.specs.Prelude.{IfOk, OnOk}
use Rattle.base.specs.Surveys.{dead_block}
use Rattle.deadlist.specs.declared.deadlist.Deadlist.{Deadlist}
use Rattle.model.specs.Ids.{snap_id}
use Rattle.world.specs.Dead.{HasNoCloneIn}
use Rattle.world.specs.Deadlists.{Lists}
use Rattle.world.specs.Tables.{Datasets, without_snap, lost_between}
use Rattle.datasets.proofs.Removed.{is_there, told_there, told_unused, removed_table, removed_is, removed_loses, all_above}
use Rattle.datasets.proofs.table.Table.remove_snapshot.Goals as goal

pub splice-requires-clause-there : goal.splice-requires-clause-there
splice-requires-clause-there c = told_there (record { file_systems = c.self.inside.systems; group = c.self.inside.group.0 }) c.self.invariant c.args.file_system.now (snap_id c.args.id) (is_there _ _ _ _ _ c.self.view_is c.has_snapshot_in.ensures c.if-not-has_snapshot_in.false)

pub splice-requires-clause-above : goal.splice-requires-clause-above
splice-requires-clause-above c = all_above (record { file_systems = c.self.inside.systems; group = c.self.inside.group.0 }) c.self.invariant c.args.file_system.now

pub splice-requires-clause-unused : goal.splice-requires-clause-unused
splice-requires-clause-unused c =
    told_unused (record { file_systems = c.self.inside.systems; group = c.self.inside.group.0 }) c.self.invariant c.args.file_system.now (snap_id c.args.id) (is_there _ _ _ _ _ c.self.view_is c.has_snapshot_in.ensures c.if-not-has_snapshot_in.false)
    (subst (λ (t : Datasets). HasNoCloneIn t.file_systems (snap_id c.args.id)) (sym c.self.view_is) c.requires.no_clone)

pub invariant_of-self : goal.invariant_of-self
invariant_of-self c =
    removed_table (record { file_systems = c.self.inside.systems; group = c.self.inside.group.0 }) c.self.invariant c.args.file_system.now (snap_id c.args.id) (is_there _ _ _ _ _ c.self.view_is c.has_snapshot_in.ensures c.if-not-has_snapshot_in.false)
    (subst (λ (t : Datasets). HasNoCloneIn t.file_systems (snap_id c.args.id)) (sym c.self.view_is) c.requires.no_clone)
    c.splice.result c.splice.new.self c.splice.ensures.ok c.splice.ensures.err

pub returns-clause-ok : goal.returns-clause-ok
returns-clause-ok c =
    subst (λ (t : Datasets). OnOk c.splice.result (record { file_systems = c.splice.new.self; group = c.self.inside.group.0 } ≡ without_snap t (snap_id c.args.id))) c.self.view_is
    (removed_is (record { file_systems = c.self.inside.systems; group = c.self.inside.group.0 }) c.self.invariant c.args.file_system.now (snap_id c.args.id) (is_there _ _ _ _ _ c.self.view_is c.has_snapshot_in.ensures c.if-not-has_snapshot_in.false)
    (subst (λ (t : Datasets). HasNoCloneIn t.file_systems (snap_id c.args.id)) (sym c.self.view_is) c.requires.no_clone)
    c.splice.result c.splice.new.self c.splice.ensures.ok)

pub returns-clause-lost : goal.returns-clause-lost
returns-clause-lost c =
    subst (λ (t : Datasets). IfOk c.splice.result
    (λ (d : Deadlist). Lists (map dead_block d.entries) (lost_between t (record { file_systems = c.splice.new.self; group = c.self.inside.group.0 })))) c.self.view_is
    (removed_loses (record { file_systems = c.self.inside.systems; group = c.self.inside.group.0 }) c.self.invariant c.args.file_system.now (snap_id c.args.id) (is_there _ _ _ _ _ c.self.view_is c.has_snapshot_in.ensures c.if-not-has_snapshot_in.false)
    (subst (λ (t : Datasets). HasNoCloneIn t.file_systems (snap_id c.args.id)) (sym c.self.view_is) c.requires.no_clone)
    c.splice.result c.splice.new.self c.splice.ensures.ok c.splice.ensures.lost)
