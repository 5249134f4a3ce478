use Rattle.std.proofs.Common.{sym, ap, subst, ◌∙◌}
use Rattle.std.specs.Option.{option_map}
use Rattle.model.specs.Ids.{snap_id}
use Rattle.model.specs.World.{Snapped, id_of}
use Rattle.datasets.specs.Table.{IsTable}
use Rattle.lookups.proofs.Lineages.{named_is}
use Rattle.lookups.proofs.SourceLineages.{IsOn, begins, ends, stops, origin_found, goes_on, falls, compares}
use Rattle.lookups.proofs.sources.lineage.is_older.Goals as goal

pub lineage-init : goal.lineage-init
lineage-init c =
    subst (IsOn c.args.table.now (Snapped (id_of c.args.snapshot.now)) (snap_id c.args.older) c.args.file_system.now) (sym c.group-until.ensures)
    (begins c.args.table.now c.args.file_system.now c.args.snapshot.now (snap_id c.args.older) c.requires.place)

pub returns-in_default : goal.returns-in_default
returns-in_default c =
    let sound : IsTable c.args.table.now = record { systems = c.facts.ensures.good; numbers = c.facts.ensures.numbers } in
    sym (ends c.args.table.now sound (Snapped (id_of c.args.snapshot.now)) (snap_id c.args.older) c.args.owner.now c.requires.home c.lineage.passed.now c.lineage.until.0 c.lineage.invariant
    (sym (named_is _ c.is_named.ensures c.as_bytes.ensures.value) ∙ c.lineage-test.true) (sym c.origin.ensures ∙ ap (option_map snap_id) c.in_default.is))

pub returns-then-origin-older : goal.returns-then-origin-older
returns-then-origin-older c =
    let sound : IsTable c.args.table.now = record { systems = c.facts.ensures.good; numbers = c.facts.ensures.numbers } in
    c.is_same.ensures
    ∙ sym (stops c.args.table.now sound (Snapped (id_of c.args.snapshot.now)) (snap_id c.args.older) c.args.owner.now c.requires.home c.lineage.passed.now c.lineage.until.0 c.lineage.invariant
    (sym (named_is _ c.is_named.ensures c.as_bytes.ensures.value) ∙ c.lineage-test.true) (snap_id c.in-Some.origin) (sym c.origin.ensures ∙ ap (option_map snap_id) c.in-Some.is) c.if-origin-older.true)

pub unreachable-requires : goal.unreachable-requires
unreachable-requires c =
    let sound : IsTable c.args.table.now = record { systems = c.facts.ensures.good; numbers = c.facts.ensures.numbers } in
    origin_found c.args.table.now sound (Snapped (id_of c.args.snapshot.now)) (snap_id c.args.older) c.args.owner.now c.requires.home c.lineage.passed.now c.lineage.until.0 c.lineage.invariant
    (sym (named_is _ c.is_named.ensures c.as_bytes.ensures.value) ∙ c.lineage-test.true) (snap_id c.in-Some.origin) (sym c.origin.ensures ∙ ap (option_map snap_id) c.in-Some.is) (sym c.in_default-snapshot_of.ensures.found)

pub lineage-smaller : goal.lineage-smaller
lineage-smaller c =
    let sound : IsTable c.args.table.now = record { systems = c.facts.ensures.good; numbers = c.facts.ensures.numbers } in
    falls c.args.table.now sound (Snapped (id_of c.args.snapshot.now)) (snap_id c.args.older) c.args.owner.now c.requires.home c.lineage.passed.now c.lineage.until.0 c.lineage.invariant
    (sym (named_is _ c.is_named.ensures c.as_bytes.ensures.value) ∙ c.lineage-test.true) (snap_id c.in-Some.origin) (sym c.origin.ensures ∙ ap (option_map snap_id) c.in-Some.is) c.facts.ensures.snapshots_closed

pub lineage-preserved : goal.lineage-preserved
lineage-preserved c =
    let sound : IsTable c.args.table.now = record { systems = c.facts.ensures.good; numbers = c.facts.ensures.numbers } in
    goes_on c.args.table.now sound (Snapped (id_of c.args.snapshot.now)) (snap_id c.args.older) c.args.owner.now c.requires.home c.lineage.passed.now c.lineage.until.0 c.lineage.invariant
    (sym (named_is _ c.is_named.ensures c.as_bytes.ensures.value) ∙ c.lineage-test.true) (snap_id c.in-Some.origin) (sym c.origin.ensures ∙ ap (option_map snap_id) c.in-Some.is)
    c.if-origin-older.false c.in-Some-snapshot_of.next.now c.in-Some-snapshot_of.field-0-1.now c.in-Some-snapshot_of.ensures.place.0 c.in-Some-snapshot_of.ensures.place.1

pub returns : goal.returns
returns c =
    let sound : IsTable c.args.table.now = record { systems = c.facts.ensures.good; numbers = c.facts.ensures.numbers } in
    sym (compares c.args.table.now sound (Snapped (id_of c.args.snapshot.now)) (snap_id c.args.older) c.args.owner.now c.requires.home c.lineage.passed.now c.lineage.until.0 c.lineage.invariant
    (sym (named_is _ c.is_named.ensures c.as_bytes.ensures.value) ∙ c.lineage-test.false))
