use Rattle.std.proofs.Common.{◌≡◌, ◌<◌, ℕ, List, Some, sym, subst}
use Rattle.std.specs.Prelude.{OnOk}
use Rattle.std.specs.Arc.{arc_value}
use Rattle.std.specs.FinMap.{get}
use Rattle.model.specs.World.{Bookmark}
use Rattle.datasets.specs.Bookmarked.{bookmarked_of}
use Rattle.world.specs.Tables.{Datasets, with_bookmarks}
use Rattle.datasets.proofs.Kept.{added_table}
use Rattle.datasets.proofs.Changed.{is_changed}
use Rattle.datasets.proofs.Bookmarked.{bookmarked_table}
use Rattle.datasets.proofs.table.Table.set_bookmarks.Goals as goal

-- the bookmarks are of closed groups
pub invariant_of-self : goal.invariant_of-self
invariant_of-self c =
    added_table (record { file_systems = c.self.inside.systems; group = c.self.inside.group.0 }) c.self.invariant c.set_bookmarks.result c.set_bookmarks.new.self
    (bookmarked_of c.self.inside.systems c.args.name.now (arc_value c.args.bookmarks))
    (bookmarked_table (record { file_systems = c.self.inside.systems; group = c.self.inside.group.0 }) c.self.invariant c.args.name.now (arc_value c.args.bookmarks)
    (subst (λ (t : Datasets). (at : List ℕ) (b : Bookmark) → get (arc_value c.args.bookmarks) at ≡ Some b → b.group < t.group) (sym c.self.view_is) c.requires.closed))
    c.set_bookmarks.ensures.ok c.set_bookmarks.ensures.err

pub returns-clause-ok : goal.returns-clause-ok
returns-clause-ok c =
    subst (λ (t : Datasets). OnOk c.set_bookmarks.result (record { file_systems = c.set_bookmarks.new.self; group = c.self.inside.group.0 } ≡ with_bookmarks t c.args.name.now (arc_value c.args.bookmarks))) c.self.view_is
    (is_changed (record { file_systems = c.self.inside.systems; group = c.self.inside.group.0 }) c.args.name.now (λ f. record f { bookmarks = arc_value c.args.bookmarks })
    c.set_bookmarks.result c.set_bookmarks.new.self c.set_bookmarks.ensures.ok)
