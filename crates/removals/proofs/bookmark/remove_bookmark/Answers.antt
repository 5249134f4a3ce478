use Rattle.std.specs.Arc.{arc_value}
use Rattle.std.specs.FinMap.{remove}
use Rattle.removals.proofs.Marked.{closed_left, from_removed}
use Rattle.removals.proofs.bookmark.remove_bookmark.Goals as goal

pub set_bookmarks-requires : goal.set_bookmarks-requires
set_bookmarks-requires c =
    let gone = c.member-name.result.now.component in
    record {
      closed = closed_left c.args.table.now c.facts.ensures.good c.member-name.result.now.file_system (λ marks. remove marks gone) (λ marks at b h. from_removed marks gone at b h)
          (arc_value c.in_ok-left.left) c.in_ok-left.ensures.ok;
    }
