use Rattle.std.proofs.Common.{Some, sym, ap, ◌∙◌}
use Rattle.std.specs.Option.{option_copied}
use Rattle.model.specs.World.{id_of}
use Rattle.model.specs.requests.Send.{sources_of, start_of}
use Rattle.world.specs.Tables.{world_of}
use Rattle.lookups.proofs.Starts.{whole}
use Rattle.lookups.proofs.sources.start.start_from.Goals as goal

pub returns-in-None : goal.returns-in-None
returns-in-None c =
    ap Some c.full_start.ensures
    ∙ sym (ap (λ x. start_of (sources_of (world_of c.args.table.now) (id_of c.args.snapshot.now)) (option_copied x)) c.in-None.is
    ∙ whole (sources_of (world_of c.args.table.now) (id_of c.args.snapshot.now)))

pub returns-in-Some : goal.returns-in-Some
returns-in-Some c =
    c.start_from_source.ensures
    ∙ ap (λ x. start_of (sources_of (world_of c.args.table.now) (id_of c.args.snapshot.now)) (option_copied x)) (sym c.in-Some.is)
