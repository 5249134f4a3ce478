use Rattle.std.proofs.Common.{ap, ◌∙◌}
use Rattle.model.specs.Ids.{snap_id}
use Rattle.model.specs.World.{clones_of}
use Rattle.world.specs.Tables.{Datasets, world_of}
use Rattle.datasets.proofs.table.Table.clones_of.Goals as goal

-- its file systems have them
pub returns : goal.returns
returns c = c.clones_of.ensures ∙ ap (λ (t : Datasets). clones_of (world_of t) (snap_id c.args.id)) c.self.view_is
