use Rattle.std.proofs.Common.{None, Some, sym, ap, ◌∙◌}
use Rattle.std.specs.Option.{option_map}
use Rattle.base.specs.declared.name.target.Target.TheVariants.{Snapshot as OfSnapshot}
use Rattle.model.specs.Ids.{snap_id}
use Rattle.model.specs.World.{Snapped, id_of}
use Rattle.datasets.specs.Table.{IsTable}
use Rattle.lookups.specs.Since.{is_before}
use Rattle.lookups.proofs.Places.{snapshot_is, snapshot_home}
use Rattle.lookups.specs.Starts.{start_at}
use Rattle.lookups.proofs.Rows.{none_named}
use Rattle.lookups.proofs.Starts.{started, no_snapshot, older_source, not_older}
use Rattle.lookups.proofs.sources.start.start_from_snapshot.Goals as goal

pub returns-in_err-owner : goal.returns-in_err-owner
returns-in_err-owner c =
    let sound : IsTable c.args.table.now = record { systems = c.facts.ensures.good; numbers = c.facts.ensures.numbers } in
    c.from_residual.ensures
    ∙ sym (started c.args.table.now sound c.args.file_system.now c.args.snapshot.now c.requires (OfSnapshot c.args.source.now) None
    (no_snapshot c.args.table.now sound c.args.file_system.now c.args.snapshot.now c.requires c.args.source.now
    (none_named c.args.table.now c.args.source.now (sym c.snapshot_named.ensures.place ∙ ap (option_map (λ p. (p.0.now, p.1.now))) c.in_err-owner.was))))

pub is_older-requires-clause-home : goal.is_older-requires-clause-home
is_older-requires-clause-home c =
    snapshot_home c.args.table.now c.args.source.now c.in_ok-owner.owner.now c.in_ok-owner.older.now
    (snapshot_is c.args.table.now c.args.source.now c.in_ok-owner.owner.now c.in_ok-owner.older.now
    (ap (option_map (λ p. (p.0.now, p.1.now))) (sym c.in_ok-owner.was) ∙ c.snapshot_named.ensures.place))
    c.name.result.now c.name.ensures (snap_id c.id-id.result) c.id-id.ensures

pub returns-then-not-is_older : goal.returns-then-not-is_older
returns-then-not-is_older c =
    let sound : IsTable c.args.table.now = record { systems = c.facts.ensures.good; numbers = c.facts.ensures.numbers } in
    sym (started c.args.table.now sound c.args.file_system.now c.args.snapshot.now c.requires (OfSnapshot c.args.source.now) None
    (not_older c.args.table.now sound c.args.file_system.now c.args.snapshot.now c.requires c.args.source.now c.in_ok-owner.owner.now c.in_ok-owner.older.now
    (snapshot_is c.args.table.now c.args.source.now c.in_ok-owner.owner.now c.in_ok-owner.older.now
    (ap (option_map (λ p. (p.0.now, p.1.now))) (sym c.in_ok-owner.was) ∙ c.snapshot_named.ensures.place))
    (ap (is_before c.args.table.now (Snapped (id_of c.args.snapshot.now))) (sym c.id-id.ensures) ∙ sym c.is_older.ensures ∙ c.if-not-is_older.true)))

pub returns : goal.returns
returns c =
    let sound : IsTable c.args.table.now = record { systems = c.facts.ensures.good; numbers = c.facts.ensures.numbers } in
    ap Some (c.start_at.ensures ∙ ap start_at c.id-id.ensures)
    ∙ sym (started c.args.table.now sound c.args.file_system.now c.args.snapshot.now c.requires (OfSnapshot c.args.source.now) _
    (older_source c.args.table.now sound c.args.file_system.now c.args.snapshot.now c.requires c.args.source.now c.in_ok-owner.owner.now c.in_ok-owner.older.now
    (snapshot_is c.args.table.now c.args.source.now c.in_ok-owner.owner.now c.in_ok-owner.older.now
    (ap (option_map (λ p. (p.0.now, p.1.now))) (sym c.in_ok-owner.was) ∙ c.snapshot_named.ensures.place))
    (ap (is_before c.args.table.now (Snapped (id_of c.args.snapshot.now))) (sym c.id-id.ensures) ∙ sym c.is_older.ensures ∙ c.if-not-is_older.false)))
