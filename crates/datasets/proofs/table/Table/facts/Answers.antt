use Rattle.std.proofs.Common.{subst}
use Rattle.datasets.specs.Table.{AreBookmarksClosed, AreSnapshotsClosed}
use Rattle.datasets.proofs.Bookmarked.{snapshots_closed, bookmarks_closed}
use Rattle.datasets.proofs.table.Table.facts.Goals as goal

pub returns-clause-bookmarks_closed : goal.returns-clause-bookmarks_closed
returns-clause-bookmarks_closed c =
    subst AreBookmarksClosed c.self.view_is (bookmarks_closed (record { file_systems = c.self.inside.systems; group = c.self.inside.group.0 }) c.self.invariant)

pub returns-clause-snapshots_closed : goal.returns-clause-snapshots_closed
returns-clause-snapshots_closed c =
    subst AreSnapshotsClosed c.self.view_is (snapshots_closed (record { file_systems = c.self.inside.systems; group = c.self.inside.group.0 }) c.self.invariant)
