use Rattle.marks.proofs.Bookmarked.{more_closed}
use Rattle.marks.proofs.bookmarking.bookmark.Goals as goal

pub set_bookmarks-requires : goal.set_bookmarks-requires
set_bookmarks-requires c = record {
  closed = more_closed c.args.table.now c.facts.ensures.bookmarks_closed c.facts.ensures.snapshots_closed c.args.target.now c.args.mark.now.component _ c.in_ok-bookmarks.ensures.ok;
}
