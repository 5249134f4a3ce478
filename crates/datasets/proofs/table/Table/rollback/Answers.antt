use Rattle.std.proofs.Common.{◌<◌, length, sym, subst}
use Rattle.std.specs.Prelude.{IfOk}
use Rattle.file_system.specs.Rows.{snaps_at}
use Rattle.world.specs.Tables.{Datasets}
use Rattle.datasets.specs.Rollbacks.{Loses}
use Rattle.datasets.proofs.Removed.{all_above}
use Rattle.datasets.proofs.RolledBack.{has_some, rolled_table, rolled_loses}
use Rattle.datasets.proofs.table.Table.rollback.Goals as goal

pub rollback-requires-clause-there : goal.rollback-requires-clause-there
rollback-requires-clause-there c =
    subst (λ (t : Datasets). 0 < length (snaps_at t.file_systems c.args.name.now)) (sym c.self.view_is) (has_some c.snapshots_of.result _ c.snapshots_of.ensures c.if-snapshots_of-eq0.false)

pub rollback-requires-clause-above : goal.rollback-requires-clause-above
rollback-requires-clause-above c = all_above (record { file_systems = c.self.inside.systems; group = c.self.inside.group.0 }) c.self.invariant c.args.name.now

pub invariant_of-self : goal.invariant_of-self
invariant_of-self c =
    let there = subst (λ (t : Datasets). 0 < length (snaps_at t.file_systems c.args.name.now)) (sym c.self.view_is) (has_some c.snapshots_of.result _ c.snapshots_of.ensures c.if-snapshots_of-eq0.false) in
    rolled_table (record { file_systems = c.self.inside.systems; group = c.self.inside.group.0 }) c.self.invariant c.args.name.now there c.rollback.result c.rollback.new.self c.rollback.ensures.ok c.rollback.ensures.err

pub returns-clause-lost : goal.returns-clause-lost
returns-clause-lost c =
    let there = subst (λ (t : Datasets). 0 < length (snaps_at t.file_systems c.args.name.now)) (sym c.self.view_is) (has_some c.snapshots_of.result _ c.snapshots_of.ensures c.if-snapshots_of-eq0.false) in
    subst (λ (t : Datasets). IfOk c.rollback.result (Loses t (record { file_systems = c.rollback.new.self; group = c.self.inside.group.0 }))) c.self.view_is
    (rolled_loses (record { file_systems = c.self.inside.systems; group = c.self.inside.group.0 }) c.self.invariant c.args.name.now there c.rollback.result c.rollback.new.self c.rollback.ensures.ok c.rollback.ensures.lost)
