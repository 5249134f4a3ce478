-- What is to be freed is within what is reached, and what datasets have lost joins it.
use Rattle.std.proofs.Common.{◌≡◌, refl, ◌∙◌}
use Rattle.std.specs.FinSet.{union, difference}
use Rattle.base.specs.Map.{BlockSet}
use Rattle.model.specs.World.{World}
use Rattle.model.specs.State.{State}
use Rattle.world.specs.Tables.{Datasets, world_of, lost_between}
use Rattle.world.proofs.changes.Kept.{union-fields}
use Rattle.steps.specs.Edits.{datasets_of, lose}

-- what the datasets have lost joins what is to be freed
pub joined_losses : (s : State) (t : Datasets) (after : BlockSet) → after ≡ union s.now.freeing (lost_between (datasets_of s) t) → after ≡ (lose s t).now.freeing
joined_losses s t after joined =
    joined ∙ (λ i. union s.now.freeing (difference (union-fields (world_of (datasets_of s)) s.now refl i) (union-fields (world_of t) new refl i)))
  where
    new : World
    new = record s.now { file_systems = t.file_systems; group = t.group }
