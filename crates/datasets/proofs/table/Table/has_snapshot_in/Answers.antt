use Rattle.std.proofs.Common.{sym, ap, ◌∙◌}
use Rattle.std.specs.Option.{option_copied}
use Rattle.datasets.proofs.Holders.{found_place}
use Rattle.datasets.proofs.Removed.{rising_at}
use Rattle.datasets.proofs.table.Table.has_snapshot_in.Goals as goal

pub snapshot_of-requires : goal.snapshot_of-requires
snapshot_of-requires c =
    rising_at (record { file_systems = c.self.inside.systems; group = c.self.inside.group.0 }) c.self.invariant c.args.file_system.now c.in-Some.file_system.now.system
    (found_place (record { file_systems = c.self.inside.systems; group = c.self.inside.group.0 }) c.args.file_system.now c.in-Some.file_system.now
    (ap option_copied (sym c.in-Some.is) ∙ c.find.ensures)).0
