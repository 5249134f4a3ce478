use Rattle.std.proofs.Common.{None, Some, sym, ap, ◌∙◌}
use Rattle.base.specs.declared.name.target.Target.TheVariants.{FileSystem as OfFileSystem}
use Rattle.model.specs.World.{id_of}
use Rattle.model.specs.requests.Send.{sources_of, start_of}
use Rattle.datasets.specs.Table.{IsTable}
use Rattle.world.specs.Tables.{world_of}
use Rattle.lookups.proofs.Starts.{started, no_file_system}
use Rattle.lookups.proofs.sources.start.start_from_source.Goals as goal

pub returns-in-FileSystem : goal.returns-in-FileSystem
returns-in-FileSystem c =
    let sound : IsTable c.args.table.now = record { systems = c.facts.ensures.good; numbers = c.facts.ensures.numbers } in
    sym (ap (λ n. start_of (sources_of (world_of c.args.table.now) (id_of c.args.snapshot.now)) (Some n)) c.in-FileSystem.is
    ∙ started c.args.table.now sound c.args.file_system.now c.args.snapshot.now c.requires (OfFileSystem c.in-FileSystem.field-0) None
    (no_file_system c.args.table.now sound c.args.file_system.now c.args.snapshot.now c.requires c.in-FileSystem.field-0))
