use Rattle.std.proofs.Common.{ap, ◌∙◌}
use Rattle.file_system.specs.Rows.{snap_count}
use Rattle.datasets.proofs.file_systems.FileSystems.snapshot_count.Goals as goal

-- they are counted
pub returns : goal.returns
returns c = c.self.invariant.counted ∙ ap snap_count c.self.view_is
