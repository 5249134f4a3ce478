use Rattle.std.proofs.Common.{ap, ◌∙◌, is_some, map, true≢false}
use Rattle.std.specs.Prelude.{Ok}
use Rattle.snapshots.specs.Marks.{entry_in}
use Rattle.snapshots.proofs.Orders.{by_name}
use Rattle.snapshots.proofs.Places.{there_is}
use Rattle.snapshots.proofs.bookmarks.place.gap.Goals as goal

-- a name that isn't there has no place
pub unreachable-requires : goal.unreachable-requires
unreachable-requires c =
    true≢false (there_is by_name (map entry_in c.args.marks.now) c.requires.sorted c.args.name.now (Ok c.in-Ok.field-0) c.in-Ok.ensures.found tt ∙ ap is_some c.requires.absent)
