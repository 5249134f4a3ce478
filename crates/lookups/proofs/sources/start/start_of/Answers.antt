use Rattle.std.proofs.Common.{sym, ap, ◌∙◌}
use Rattle.std.specs.Prelude.{Ok}
use Rattle.std.specs.Option.{option_copied, option_map}
use Rattle.base.specs.declared.name.target.Target.TheVariants.{Snapshot as OfSnapshot}
use Rattle.model.specs.Rule.{first_of}
use Rattle.model.specs.requests.Send.{start_named, send_row}
use Rattle.world.specs.Tables.{world_of}
use Rattle.lookups.proofs.Places.{snapshot_is, snapshot_stands}
use Rattle.lookups.proofs.Rows.{start_is, allowed, refused, none_stands}
use Rattle.lookups.proofs.sources.start.start_of.Goals as goal

pub start_from-requires : goal.start_from-requires
start_from-requires c =
    snapshot_stands c.args.table.now c.member-name.result.now c.in-Some.file_system.now c.in-Some.snapshot.now
    (snapshot_is c.args.table.now c.member-name.result.now c.in-Some.file_system.now c.in-Some.snapshot.now
    (ap (option_map (λ p. (p.0.now, p.1.now))) (sym c.in-Some.is) ∙ c.snapshot_named.ensures.place))

pub returns-in-Some-start_from-clause-ok : goal.returns-in-Some-start_from-clause-ok
returns-in-Some-start_from-clause-ok c =
    ap (λ n. start_named (world_of c.args.table.now) n (option_copied c.args.from)) (c.in-Snapshot.is ∙ ap OfSnapshot (sym c.member-name.ensures.value))
    ∙ start_is c.args.table.now c.member-name.result.now (option_copied c.args.from) c.in-Some.file_system.now c.in-Some.snapshot.now
    (snapshot_is c.args.table.now c.member-name.result.now c.in-Some.file_system.now c.in-Some.snapshot.now
    (ap (option_map (λ p. (p.0.now, p.1.now))) (sym c.in-Some.is) ∙ c.snapshot_named.ensures.place))
    ∙ sym c.start_from.ensures ∙ c.in-Some-start_from.is

pub returns-in-Some-start_from-clause-can : goal.returns-in-Some-start_from-clause-can
returns-in-Some-start_from-clause-can c =
    ap (λ n. first_of (send_row (world_of c.args.table.now) n (option_copied c.args.from))) (c.in-Snapshot.is ∙ ap OfSnapshot (sym c.member-name.ensures.value))
    ∙ allowed c.args.table.now c.member-name.result.now (option_copied c.args.from) c.in-Some.file_system.now c.in-Some.snapshot.now
    (snapshot_is c.args.table.now c.member-name.result.now c.in-Some.file_system.now c.in-Some.snapshot.now
    (ap (option_map (λ p. (p.0.now, p.1.now))) (sym c.in-Some.is) ∙ c.snapshot_named.ensures.place))
    c.in-Some-start_from.start (sym c.start_from.ensures ∙ c.in-Some-start_from.is)

pub returns-in-Some-start_from-clause-refused : goal.returns-in-Some-start_from-clause-refused
returns-in-Some-start_from-clause-refused c =
    none_stands (first_of (send_row (world_of c.args.table.now) c.args.target.now (option_copied c.args.from))) (Ok c.in-Some-start_from.start)
    (ap (λ n. first_of (send_row (world_of c.args.table.now) n (option_copied c.args.from))) (c.in-Snapshot.is ∙ ap OfSnapshot (sym c.member-name.ensures.value))
    ∙ allowed c.args.table.now c.member-name.result.now (option_copied c.args.from) c.in-Some.file_system.now c.in-Some.snapshot.now
    (snapshot_is c.args.table.now c.member-name.result.now c.in-Some.file_system.now c.in-Some.snapshot.now
    (ap (option_map (λ p. (p.0.now, p.1.now))) (sym c.in-Some.is) ∙ c.snapshot_named.ensures.place))
    c.in-Some-start_from.start (sym c.start_from.ensures ∙ c.in-Some-start_from.is))

pub returns-in-None-clause-only : goal.returns-in-None-clause-only
returns-in-None-clause-only c =
    ap (λ n. first_of (send_row (world_of c.args.table.now) n (option_copied c.args.from))) (c.in-Snapshot.is ∙ ap OfSnapshot (sym c.member-name.ensures.value))
    ∙ refused c.args.table.now c.member-name.result.now (option_copied c.args.from) c.in-Some.file_system.now c.in-Some.snapshot.now
    (snapshot_is c.args.table.now c.member-name.result.now c.in-Some.file_system.now c.in-Some.snapshot.now
    (ap (option_map (λ p. (p.0.now, p.1.now))) (sym c.in-Some.is) ∙ c.snapshot_named.ensures.place))
    (sym c.start_from.ensures ∙ c.in-None.is)
