use Rattle.std.proofs.Common.{rules}
use Rattle.std.proofs.lemmas.Fn.{always_returns_same}
use Rattle.model.specs.Properties.{bookmark_cmp}
use Rattle.snapshots.specs.Marks.{entry_of, keyed_in, order_key}
use Rattle.snapshots.proofs.Orders.{by_group}
use Rattle.snapshots.proofs.Places.{searched}
use Rattle.snapshots.proofs.bookmarks.order.place_in_order.Goals as goal

-- the closure compares groups, and then names
pub returns : goal.returns
returns c =
    let key = order_key (entry_of c.args.mark.now) in
    let facts = c.binary_search_by.ensures in
    let by_key = facts.position (λ a. bookmark_cmp (keyed_in a).0 key) (always_returns_same _ _ _ (λ a r g called. search rules)) in
    let both = searched by_group keyed_in c.args.marks.now c.requires key _ facts.bound by_key in
    record { found = both.0; absent = both.1 }
