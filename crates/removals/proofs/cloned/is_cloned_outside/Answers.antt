use Rattle.std.proofs.Common.{ℕ, List, Bool, not, ap, ◌∙◌}
use Rattle.std.specs.List.{list_any}
use Rattle.datasets.specs.CloneNames.{name_of}
use Rattle.model.specs.World.{clones_of}
use Rattle.model.specs.Hierarchy.{is_in_family}
use Rattle.world.specs.Tables.{world_of}
use Rattle.snap.proofs.Shared.{any_value}
use Rattle.removals.proofs.cloned.is_cloned_outside.Goals as goal

pub returns : goal.returns
returns c =
    let p : List ℕ → Bool = λ n. not (is_in_family c.args.name.now n) in
    c.any_outside.ensures ∙ any_value name_of p c.clones_of.result.now
    ∙ ap (list_any p) (c.clones_of.ensures ∙ ap (clones_of (world_of c.args.table.now)) c.id.ensures)
