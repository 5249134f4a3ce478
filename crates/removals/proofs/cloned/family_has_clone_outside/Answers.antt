use Rattle.std.proofs.Common.{◌&&◌, Bool, ap, ◌∙◌}
use Rattle.std.specs.List.{list_any}
use Rattle.datasets.specs.Rows.{Entry, entry_in}
use Rattle.model.specs.Hierarchy.{is_in_family}
use Rattle.removals.specs.Families.{is_cloned_outside}
use Rattle.removals.proofs.Outside.{asked_outside}
use Rattle.snap.proofs.Shared.{shared_are}
use Rattle.snap.proofs.Shared.{any_value}
use Rattle.removals.proofs.cloned.family_has_clone_outside.Goals as goal

pub returns : goal.returns
returns c =
    let p : Entry → Bool = λ r. is_in_family c.args.name.now r.0 && list_any (is_cloned_outside c.args.table.now c.args.name.now) r.1.snaps in
    c.any_cloned_within.ensures ∙ any_value entry_in p c.file_systems.result.now ∙ ap (list_any p) (shared_are c.args.table.now.file_systems c.file_systems.result.now c.file_systems.ensures)
    ∙ asked_outside c.args.table.now c.facts.ensures.good c.args.name.now
