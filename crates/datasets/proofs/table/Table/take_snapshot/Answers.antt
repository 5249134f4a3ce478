use Rattle.std.proofs.Common.{sym, subst}
use Rattle.file_system.specs.Rows.{live_of, plain_snap}
use Rattle.world.specs.Tables.{Datasets, CanSnap}
use Rattle.datasets.proofs.Kept.{fresh_in, snapped_table}
use Rattle.datasets.proofs.table.Table.take_snapshot.Goals as goal

pub take_snapshot-requires-clause-fresh : goal.take_snapshot-requires-clause-fresh
take_snapshot-requires-clause-fresh c =
    let can = subst (λ (t : Datasets). CanSnap t c.args.name.now (plain_snap c.args.component.now (live_of t.file_systems c.args.name.now) c.args.guid.0 c.args.group.0)) (sym c.self.view_is) c.requires in
    fresh_in _ c.self.invariant c.args.name.now c.args.component.now c.args.guid.0 c.args.group.0 can

pub invariant_of-self : goal.invariant_of-self
invariant_of-self c =
    let can = subst (λ (t : Datasets). CanSnap t c.args.name.now (plain_snap c.args.component.now (live_of t.file_systems c.args.name.now) c.args.guid.0 c.args.group.0)) (sym c.self.view_is) c.requires in
    snapped_table _ c.self.invariant c.args.name.now c.args.component.now c.args.guid.0 c.args.group.0 can
    c.take_snapshot.result c.take_snapshot.new.self c.take_snapshot.ensures.ok c.take_snapshot.ensures.err
