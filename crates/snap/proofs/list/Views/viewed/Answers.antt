use Rattle.std.proofs.Common.{ap}
use Rattle.snap.specs.Viewing.{Viewing}
use Rattle.snap.proofs.Rows.{viewed_listed}
use Rattle.snap.proofs.list.Views.viewed.Goals as goal

-- their list has it where the map has
pub returns-clause-ok : goal.returns-clause-ok
returns-clause-ok c =
    viewed_listed c.self.inside.open.items c.self.invariant.sorted c.args.self.now.opened (ap (λ (v : Viewing). v.opened) c.self.view_is) c.identities.result (rw (c.deref.ensures.value) at c.identities.ensures.ok)
