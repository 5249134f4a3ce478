use Rattle.std.proofs.Common.{◌++◌, ◌∷◌, [], refl, sym, ap, ◌∙◌, append_assoc}
use Rattle.std.specs.Option.{option_map}
use Rattle.model.specs.Ids.{snap_id}
use Rattle.model.specs.World.{id_of}
use Rattle.datasets.specs.Table.{IsTable}
use Rattle.lookups.specs.Sources.{snapshot_in, older_sources, lineage_sources}
use Rattle.lookups.proofs.SourcesOf.{at_top, origin_found, falls, goes_down}
use Rattle.lookups.proofs.sources.list.push_lineage.Goals as goal

pub lineage-init : goal.lineage-init
lineage-init c = (c.requires, refl)

pub returns-in_default-clause-ok : goal.returns-in_default-clause-ok
returns-in_default-clause-ok c =
    let sound : IsTable c.args.table.now = record { systems = c.facts.ensures.good; numbers = c.facts.ensures.numbers } in
    at_top c.args.table.now sound c.lineage.passed.now c.lineage.at.now c.lineage.invariant.0 (sym c.origin.ensures ∙ ap (option_map snap_id) c.in_default.is)
    c.lineage.sources.items (c.args.sources.now.items ++ lineage_sources c.args.table.now (id_of c.args.snapshot.now)) c.push_older.new.sources.items c.lineage.invariant.1
    (c.in_ok-push_older.ensures.ok ∙ ap (λ n. c.lineage.sources.items ++ older_sources c.lineage.passed.now.name n c.lineage.passed.now.system.snaps) c.group.ensures)

pub unreachable-requires : goal.unreachable-requires
unreachable-requires c =
    let sound : IsTable c.args.table.now = record { systems = c.facts.ensures.good; numbers = c.facts.ensures.numbers } in
    origin_found c.args.table.now sound c.lineage.passed.now c.lineage.at.now c.lineage.invariant.0 (snap_id c.in-Some.origin) (sym c.origin.ensures ∙ ap (option_map snap_id) c.in-Some.is)
    (sym c.in_default-snapshot_of.ensures.found)

pub lineage-smaller : goal.lineage-smaller
lineage-smaller c =
    let sound : IsTable c.args.table.now = record { systems = c.facts.ensures.good; numbers = c.facts.ensures.numbers } in
    falls c.args.table.now sound c.lineage.passed.now c.lineage.at.now c.lineage.invariant.0 (snap_id c.in-Some.origin) (sym c.origin.ensures ∙ ap (option_map snap_id) c.in-Some.is)
    c.in-Some-snapshot_of.next.now c.in-Some-snapshot_of.ensures.place.1

pub lineage-preserved : goal.lineage-preserved
lineage-preserved c =
    let sound : IsTable c.args.table.now = record { systems = c.facts.ensures.good; numbers = c.facts.ensures.numbers } in
    let older = older_sources c.lineage.passed.now.name c.lineage.at.now.group c.lineage.passed.now.system.snaps in
    let source = snapshot_in c.in-Some-snapshot_of.owner.now.name c.in-Some-snapshot_of.next.now in
    let rest = lineage_sources c.args.table.now (id_of c.in-Some-snapshot_of.next.now) in (
      c.in-Some-snapshot_of.ensures.place.0,
      c.lineage.invariant.1
          ∙ ap (λ l. c.lineage.sources.items ++ l)
          (goes_down c.args.table.now sound c.lineage.passed.now c.lineage.at.now c.lineage.invariant.0 (snap_id c.in-Some.origin) (sym c.origin.ensures ∙ ap (option_map snap_id) c.in-Some.is)
          c.in-Some-snapshot_of.owner.now c.in-Some-snapshot_of.next.now c.in-Some-snapshot_of.ensures.place.0 c.in-Some-snapshot_of.ensures.place.1)
          ∙ sym (append_assoc c.lineage.sources.items (older ++ source ∷ []) rest)
          ∙ ap (λ l. l ++ rest) (sym (append_assoc c.lineage.sources.items older (source ∷ []))
          ∙ ap (λ l. l ++ source ∷ []) (sym (c.in_ok-push_older.ensures.ok ∙ ap (λ n. c.lineage.sources.items ++ older_sources c.lineage.passed.now.name n c.lineage.passed.now.system.snaps) c.group.ensures))
          ∙ ap (λ x. c.push_older.new.sources.items ++ x ∷ []) (sym c.in_ok-snapshot_source.ensures.ok)
          ∙ sym c.in_ok-push.ensures.items),
    )
