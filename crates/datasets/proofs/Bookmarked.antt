-- A file system of a table that has other bookmarks, or another limit; and what of a table is of closed groups.
use Rattle.std.proofs.Common.{◌≡◌, ◌<◌, ℕ, List, Option, Some, refl}
use Rattle.std.specs.FinMap.{FinMap, get}
use Rattle.base.specs.Names.{name_cmp}
use Rattle.model.specs.declared.limits.Limit.{Limit}
use Rattle.model.specs.Limits.{limited}
use Rattle.model.specs.World.{Bookmark, id_of}
use Rattle.datasets.specs.Bookmarked.{bookmarked_of}
use Rattle.datasets.specs.Limited.{limited_of}
use Rattle.world.specs.Shapes.{Name}
use Rattle.world.specs.Worlds.{snap_shape, shape_of, shapes}
use Rattle.world.specs.Tables.{Datasets}
use Rattle.world.proofs.lineage.Bridge.{shape_at, among}
use Rattle.world.proofs.lineage.Requests.{lineage_facts}
use Rattle.datasets.specs.Table.{IsTable, AreBookmarksClosed, AreSnapshotsClosed}
use Rattle.datasets.proofs.Changed.{changed_table}

-- each snapshot is of a closed group, and so is each bookmark
module _ (t : Datasets) (sound : IsTable t) where
  pub snapshots_closed : AreSnapshotsClosed t
  snapshots_closed name f u at h =
      (lineage_facts (shapes t.file_systems) t.group sound.systems.lines).1 (id_of u) (snap_shape u) (name, shape_of f, shape_at t.file_systems name f at, among f.snaps u h, refl)

  pub bookmarks_closed : AreBookmarksClosed t
  bookmarks_closed name at f b there h = (sound.systems.tidy name f there).bookmarks at b h

-- bookmarks of closed groups keep what a table keeps
pub bookmarked_table : (t : Datasets) → IsTable t → (name : Name) (marks : FinMap name_cmp Bookmark) → ((at : List ℕ) (b : Bookmark) → get marks at ≡ Some b → b.group < t.group)
    → IsTable (record t { file_systems = bookmarked_of t.file_systems name marks })
bookmarked_table t sound name marks closed =
    changed_table t name (λ f. record f { bookmarks = marks }) sound (λ f. refl) (λ f m h. h)
    (λ f at. record { names = (sound.systems.tidy name f at).names; bookmarks = closed })

-- and so does any limit
pub limited_table : (t : Datasets) → IsTable t → (name : Name) (limit : Limit) (amount : Option ℕ) → IsTable (record t { file_systems = limited_of t.file_systems name limit amount })
limited_table t sound name limit amount =
    changed_table t name (λ f. limited f limit amount) sound (λ f. refl) (λ f m h. h)
    (λ f at. record { names = (sound.systems.tidy name f at).names; bookmarks = (sound.systems.tidy name f at).bookmarks })
