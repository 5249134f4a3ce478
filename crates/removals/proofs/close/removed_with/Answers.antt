use Rattle.std.proofs.Common.{◌||◌, sym, ap, ◌∙◌}
use Rattle.std.specs.FinMap.{remove}
use Rattle.std.specs.Option.{option_and_then}
use Rattle.model.specs.Ids.{snap_id}
use Rattle.removals.specs.Families.{unneeded}
use Rattle.removals.specs.Needs.{has_clone}
use Rattle.removals.proofs.Needed.{needed_stays, unneeded_found}
use Rattle.removals.proofs.close.removed_with.Goals as goal
use Rattle.removals.proofs.close.removed_with.Goals.{then-is_viewed_beside-via-then-is_viewed_beside, then-is_viewed_beside-via-else-is_viewed_beside+then-has_clone}

pub returns-then-is_viewed_beside : goal.returns-then-is_viewed_beside
returns-then-is_viewed_beside c =
    let left = remove c.args.views.now.opened c.args.number in
    sym (ap (option_and_then (unneeded c.args.table.now left)) (sym c.in_ok-id.ensures) ∙ needed_stays c.args.table.now left (snap_id c.in_ok-id.id)
    (elim c.then-is_viewed_beside.branch [
      | then-is_viewed_beside-via-then-is_viewed_beside w ↦ ap (λ b. b || has_clone c.args.table.now (snap_id c.in_ok-id.id)) (sym c.is_viewed_beside.ensures ∙ w.if-is_viewed_beside.true)
      | then-is_viewed_beside-via-else-is_viewed_beside+then-has_clone w ↦ (λ j. (sym c.is_viewed_beside.ensures ∙ w.if-is_viewed_beside.false) j || (sym w.has_clone.ensures.clones ∙ w.if-has_clone.true) j)
    ]))

pub returns : goal.returns
returns c =
    let left = remove c.args.views.now.opened c.args.number in
    sym (ap (option_and_then (unneeded c.args.table.now left)) (sym c.in_ok-id.ensures)
    ∙ unneeded_found c.args.table.now left (snap_id c.in_ok-id.id) (c.in_ok-file_system.file_system.now.name, c.in_ok-file_system.snapshot.now) c.in_ok-file_system.ensures.found
    (sym c.is_viewed_beside.ensures ∙ c.if-is_viewed_beside.false) (sym c.has_clone.ensures.clones ∙ c.if-has_clone.false) (sym c.is_deferred.ensures ∙ c.if-not-is_deferred.false) (sym c.is_held.ensures ∙ c.if-is_held.false))
