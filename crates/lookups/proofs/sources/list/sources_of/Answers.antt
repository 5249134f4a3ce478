use Rattle.std.proofs.Common.{◌≡◌, ◌++◌, sym, ap, subst, ◌∙◌}
use Rattle.std.specs.Prelude.{IfSome}
use Rattle.std.specs.Option.{option_map}
use Rattle.model.specs.World.{id_of, snap_named}
use Rattle.model.specs.requests.Send.{sources_of, bookmark_sources}
use Rattle.datasets.specs.Table.{IsTable}
use Rattle.lookups.proofs.Places.{snapshot_is, snapshot_stands}
use Rattle.world.specs.Tables.{world_of}
use Rattle.lookups.specs.Sources.{lineage_sources}
use Rattle.lookups.proofs.Starts.{parted}
use Rattle.lookups.proofs.sources.list.sources_of.Goals as goal

pub push_lineage-requires : goal.push_lineage-requires
push_lineage-requires c =
    snapshot_stands c.args.table.now c.member-name.result.now c.in-Some.file_system.now c.in-Some.sent.now
    (snapshot_is c.args.table.now c.member-name.result.now c.in-Some.file_system.now c.in-Some.sent.now
    (ap (option_map (λ p. (p.0.now, p.1.now))) (sym c.in-Some.is) ∙ c.snapshot_named.ensures.place))

pub returns-clause-ok : goal.returns-clause-ok
returns-clause-ok c =
    let sound : IsTable c.args.table.now = record { systems = c.facts.ensures.good; numbers = c.facts.ensures.numbers } in
    let found = snapshot_is c.args.table.now c.member-name.result.now c.in-Some.file_system.now c.in-Some.sent.now
    (ap (option_map (λ p. (p.0.now, p.1.now))) (sym c.in-Some.is) ∙ c.snapshot_named.ensures.place) in
    subst (λ x. IfSome x (λ u. c.push_bookmarks.new.sources.items ≡ sources_of (world_of c.args.table.now) (id_of u)))
    (sym (ap (snap_named (world_of c.args.table.now)) (sym c.member-name.ensures.value) ∙ found.named))
    (c.in_ok-push_bookmarks.ensures.ok
    ∙ (λ i. c.in_ok-push_lineage.ensures.ok i ++ bookmark_sources c.in-Some.file_system.now.name c.in-Some.file_system.now.system (c.group.ensures i))
    ∙ ap (λ l. l ++ lineage_sources c.args.table.now (id_of c.in-Some.sent.now) ++ bookmark_sources c.in-Some.file_system.now.name c.in-Some.file_system.now.system c.in-Some.sent.now.group) c.new-sources.ensures.items
    ∙ sym (parted c.args.table.now sound c.in-Some.file_system.now c.in-Some.sent.now (snapshot_stands c.args.table.now c.member-name.result.now c.in-Some.file_system.now c.in-Some.sent.now found)))
