use Rattle.std.proofs.Common.{map, ap, ◌∙◌}
use Rattle.std.specs.FinMap.{from_sorted}
use Rattle.base.specs.Names.{name_cmp}
use Rattle.snapshots.specs.Marks.{entry_in}
use Rattle.snapshots.proofs.Orders.{by_name}
use Rattle.snapshots.proofs.Places.{nothing_is}
use Rattle.snapshots.proofs.bookmarks.list.Bookmarks.new.Goals as goal

-- there is none
pub returns : goal.returns
returns c = ap (λ l. from_sorted {R = name_cmp} (map entry_in l)) c.new.ensures.items ∙ nothing_is by_name
