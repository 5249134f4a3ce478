use Rattle.std.proofs.Common.{rules}
use Rattle.std.proofs.lemmas.Fn.{always_returns_same}
use Rattle.base.specs.Names.{name_cmp}
use Rattle.snapshots.specs.Marks.{entry_in}
use Rattle.snapshots.proofs.Orders.{by_name}
use Rattle.snapshots.proofs.Places.{searched}
use Rattle.snapshots.proofs.bookmarks.place.place.Goals as goal

-- the closure compares a bookmark's name
pub returns : goal.returns
returns c =
    let facts = c.binary_search_by.ensures in
    let by_key = facts.position (λ a. name_cmp (entry_in a).0 c.args.name.now) (always_returns_same _ _ _ (λ a r g called. search rules)) in
    let both = searched by_name entry_in c.args.marks.now c.requires c.args.name.now _ facts.bound by_key in
    record { found = both.0; absent = both.1 }
