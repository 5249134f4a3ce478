use Rattle.std.proofs.Common.{ap, ◌∙◌}
use Rattle.model.specs.State.{is_viewed}
use Rattle.model.specs.Ids.{snap_id}
use Rattle.snap.specs.Viewing.{Viewing}
use Rattle.snap.proofs.Rows.{viewed_is}
use Rattle.snap.proofs.list.Views.is_viewed.Goals as goal

-- one of them does where the map has it
pub returns : goal.returns
returns c =
    rw (c.deref.ensures.value) at c.any_shows.ensures
    ∙ viewed_is c.self.inside.open.items c.self.invariant.sorted (snap_id c.args.id)
    ∙ ap (λ (v : Viewing). is_viewed v.opened (snap_id c.args.id)) c.self.view_is
