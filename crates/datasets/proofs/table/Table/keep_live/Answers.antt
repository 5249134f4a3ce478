use Rattle.std.proofs.Common.{◌+◌, sym, subst, arith}
use Rattle.file_system.specs.Rows.{live_of, plain_snap}
use Rattle.world.specs.Tables.{Datasets, CanSnap}
use Rattle.datasets.proofs.Kept.{later_table, fresh_in, snapped_table}
use Rattle.datasets.proofs.table.Table.keep_live.Goals as goal

pub take_snapshot-requires-clause-fresh : goal.take_snapshot-requires-clause-fresh
take_snapshot-requires-clause-fresh c =
    let can = subst (λ (t : Datasets). CanSnap (record t { group = t.group + 1 }) c.args.name.now (plain_snap c.args.component.now (live_of t.file_systems c.args.name.now) c.args.guid.0 t.group)) (sym c.self.view_is) c.requires.can in
    fresh_in (record { file_systems = c.self.inside.systems; group = c.self.inside.group.0 + 1 })
    (later_table (record { file_systems = c.self.inside.systems; group = c.self.inside.group.0 }) _ (omega arith) c.self.invariant) c.args.name.now c.args.component.now c.args.guid.0 c.self.inside.group.0 can

-- a snapshot in the table whose group is closed
pub invariant_of-self-2 : goal.invariant_of-self-2
invariant_of-self-2 c =
    let can = subst (λ (t : Datasets). CanSnap (record t { group = t.group + 1 }) c.args.name.now (plain_snap c.args.component.now (live_of t.file_systems c.args.name.now) c.args.guid.0 t.group)) (sym c.self.view_is) c.requires.can in
    snapped_table (record { file_systems = c.self.inside.systems; group = c.self.inside.group.0 + 1 })
    (later_table (record { file_systems = c.self.inside.systems; group = c.self.inside.group.0 }) _ (omega arith) c.self.invariant) c.args.name.now c.args.component.now c.args.guid.0 c.self.inside.group.0 can
    c.take_snapshot.result c.take_snapshot.new.self c.take_snapshot.ensures.ok c.take_snapshot.ensures.err
