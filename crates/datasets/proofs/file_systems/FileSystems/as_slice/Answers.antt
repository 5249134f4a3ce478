use Rattle.std.proofs.Common.{ap, ◌∙◌, map}
use Rattle.std.specs.Arc.{arc_value}
use Rattle.std.specs.FinMap.{entries}
use Rattle.datasets.specs.Clones.{row_in}
use Rattle.file_system.specs.Rows.{FileSystems}
use Rattle.datasets.proofs.Ties.{rows_are}
use Rattle.datasets.proofs.file_systems.FileSystems.as_slice.Goals as goal

-- the rows are the map's entries
pub returns : goal.returns
returns c = ap (map arc_value) c.deref.ensures.value ∙ rows_are c.self.inside.rows.items c.self.invariant.sorted c.self.invariant.tied ∙ ap (λ (m : FileSystems). map (row_in m) (entries m)) c.self.view_is
