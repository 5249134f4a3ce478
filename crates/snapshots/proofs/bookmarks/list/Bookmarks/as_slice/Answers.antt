use Rattle.std.proofs.Common.{map, ap, sym, ◌∙◌}
use Rattle.std.specs.FinMap.{entries}
use Rattle.snapshots.specs.Marks.{Marks, entry_in}
use Rattle.snapshots.proofs.Orders.{by_name}
use Rattle.snapshots.proofs.Places.{entries_are}
use Rattle.snapshots.proofs.bookmarks.list.Bookmarks.as_slice.Goals as goal

-- the rows are the map's entries
pub returns : goal.returns
returns c = ap (map entry_in) c.as_slice.ensures.value ∙ sym (entries_are by_name _ c.self.invariant.sorted) ∙ ap (λ (m : Marks). entries m) c.self.view_is
