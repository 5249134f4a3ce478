use Rattle.std.proofs.Common.{ap, ◌∙◌}
use Rattle.std.specs.FinMap.{remove}
use Rattle.model.specs.State.{is_viewed}
use Rattle.model.specs.Ids.{snap_id}
use Rattle.snap.specs.Viewing.{Viewing}
use Rattle.snap.proofs.Rows.{viewed_beside_is}
use Rattle.snap.proofs.list.Views.is_viewed_beside.Goals as goal

-- one of another number does where the map without that number has it
pub returns : goal.returns
returns c =
    rw (c.deref.ensures.value) at c.any_other_shows.ensures
    ∙ viewed_beside_is c.self.inside.open.items c.self.invariant.sorted c.args.number (snap_id c.args.id)
    ∙ ap (λ (v : Viewing). is_viewed (remove v.opened c.args.number) (snap_id c.args.id)) c.self.view_is
