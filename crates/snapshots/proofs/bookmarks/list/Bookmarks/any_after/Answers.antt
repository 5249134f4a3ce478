use Rattle.std.proofs.Common.{ap, ◌∙◌}
use Rattle.snapshots.specs.Marks.{Marks, has_newer}
use Rattle.snapshots.proofs.Filters.{newer_is}
use Rattle.snapshots.proofs.bookmarks.list.Bookmarks.any_after.Goals as goal

-- one of them has a later group where the map has one
pub returns : goal.returns
returns c =
    rw (c.deref.ensures.value) at c.any_newer.ensures
    ∙ newer_is c.args.group.0 c.self.inside.rows.items c.self.invariant
    ∙ ap (λ (m : Marks). has_newer m c.args.group.0) c.self.view_is
