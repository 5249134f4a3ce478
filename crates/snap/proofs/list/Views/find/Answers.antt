use Rattle.std.proofs.Common.{ap, sym, ◌∙◌}
use Rattle.std.specs.FinMap.{get}
use Rattle.snap.specs.Viewing.{Viewing}
use Rattle.snap.proofs.Numbered.{get_is}
use Rattle.snap.proofs.list.Views.find.Goals as goal

-- what the search finds is what the map has
pub returns : goal.returns
returns c =
    rw (c.deref.ensures.value) at c.shown.ensures
    ∙ sym (get_is _ c.self.invariant.sorted c.args.number)
    ∙ ap (λ (v : Viewing). get v.opened c.args.number) c.self.view_is
