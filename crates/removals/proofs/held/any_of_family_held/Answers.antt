use Rattle.std.proofs.Common.{◌&&◌, Bool, ap, ◌∙◌}
use Rattle.std.specs.List.{list_any}
use Rattle.datasets.specs.Rows.{Entry, entry_in}
use Rattle.model.specs.Hierarchy.{is_in_family}
use Rattle.removals.specs.Needs.{is_held_after}
use Rattle.snap.proofs.Shared.{shared_are}
use Rattle.snap.proofs.Shared.{any_value}
use Rattle.removals.proofs.held.any_of_family_held.Goals as goal

pub returns : goal.returns
returns c =
    let p : Entry → Bool = λ r. is_in_family c.args.name.now r.0 && list_any (is_held_after c.args.views.now.opened 0) r.1.snaps in
    c.any_held_within.ensures ∙ any_value entry_in p c.file_systems.result.now ∙ ap (list_any p) (shared_are c.args.table.now.file_systems c.file_systems.result.now c.file_systems.ensures)
