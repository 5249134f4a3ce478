use Rattle.std.proofs.Common.{map, ap, ◌∙◌}
use Rattle.std.specs.FinMap.{contains_key}
use Rattle.snapshots.specs.Marks.{Marks, entry_in}
use Rattle.snapshots.proofs.Orders.{by_name}
use Rattle.snapshots.proofs.Places.{there_is}
use Rattle.snapshots.proofs.bookmarks.list.Bookmarks.contains.Goals as goal

-- a name is there where the search finds it
pub returns : goal.returns
returns c =
    c.is_ok.ensures.value
    ∙ there_is by_name (map entry_in c.self.inside.rows.items) c.self.invariant.sorted c.args.name.now c.place.result (rw (← c.deref.ensures.value) c.place.ensures.found) (rw (← c.deref.ensures.value) c.place.ensures.absent)
    ∙ ap (λ (m : Marks). contains_key m c.args.name.now) c.self.view_is
