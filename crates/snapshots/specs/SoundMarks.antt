-- What the bookmarks of a file system keep.
use Rattle.std.specs.Prelude.{◌≤◌, List, IsTrue, length}
use Rattle.std.specs.FinMap.{is_sorted}
use Rattle.base.specs.Names.{name_cmp}
use Rattle.snapshots.specs.Marks.{Entry, mark_limit}

-- the names rise, and there are not too many (profile)
pub record AreSound (es : List Entry) : Type 0 where
  pub sorted : IsTrue (is_sorted name_cmp es)
  pub few : length es ≤ mark_limit
