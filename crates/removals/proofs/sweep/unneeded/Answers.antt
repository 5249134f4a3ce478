use Rattle.std.proofs.Common.{◌||◌, sym, ap, ◌∙◌}
use Rattle.model.specs.Ids.{snap_id}
use Rattle.removals.specs.Needs.{has_clone}
use Rattle.removals.proofs.Needed.{needed_stays, unneeded_found}
use Rattle.removals.proofs.sweep.unneeded.Goals as goal
use Rattle.removals.proofs.sweep.unneeded.Goals.{then-is_viewed-via-then-is_viewed, then-is_viewed-via-else-is_viewed+then-has_clone}

pub returns-then-is_viewed : goal.returns-then-is_viewed
returns-then-is_viewed c = sym (needed_stays c.args.table.now c.args.views.now.opened (snap_id c.args.id)
    (elim c.then-is_viewed.branch [
      | then-is_viewed-via-then-is_viewed w ↦ ap (λ b. b || has_clone c.args.table.now (snap_id c.args.id)) (sym c.is_viewed.ensures ∙ w.if-is_viewed.true)
      | then-is_viewed-via-else-is_viewed+then-has_clone w ↦ (λ j. (sym c.is_viewed.ensures ∙ w.if-is_viewed.false) j || (sym w.has_clone.ensures.clones ∙ w.if-has_clone.true) j)
    ]))

pub returns-then-not-is_held : goal.returns-then-not-is_held
returns-then-not-is_held c = sym (unneeded_found c.args.table.now c.args.views.now.opened (snap_id c.args.id) (c.in_ok-owner.owner.now.name, c.in_ok-owner.snapshot.now) c.in_ok-owner.ensures.found
    (sym c.is_viewed.ensures ∙ c.if-is_viewed.false) (sym c.has_clone.ensures.clones ∙ c.if-has_clone.false) (sym c.is_deferred.ensures ∙ c.if-is_deferred.true) (sym c.is_held.ensures ∙ c.if-not-is_held.true))
