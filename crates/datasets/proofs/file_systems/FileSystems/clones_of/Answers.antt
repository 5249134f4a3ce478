use Rattle.std.proofs.Common.{ap, ◌∙◌}
use Rattle.model.specs.Ids.{snap_id}
use Rattle.datasets.specs.CloneNames.{clones_in}
use Rattle.datasets.proofs.Listing.{listed_names}
use Rattle.datasets.proofs.file_systems.FileSystems.clones_of.Goals as goal

-- the clones are listed
pub returns : goal.returns
returns c = c.of.ensures ∙ listed_names _ c.self.inside.clones (snap_id c.args.id) c.self.invariant.listed ∙ ap (λ m. clones_in m (snap_id c.args.id)) c.self.view_is
