-- Bookmarks among file systems by name.
use Rattle.std.specs.Prelude.{ℕ, List}
use Rattle.std.specs.FinMap.{FinMap, get, insert}
use Rattle.std.specs.Option.{option_map_or}
use Rattle.base.specs.Names.{name_cmp}
use Rattle.model.specs.World.{Bookmark}
use Rattle.file_system.specs.Rows.{FileSystems}

-- the file systems, where that one has these bookmarks (zfs-bookmark(8))
abbrev pub bookmarked_of : FileSystems → List ℕ → FinMap name_cmp Bookmark → FileSystems
bookmarked_of m name bookmarks = option_map_or (λ f. insert m name (record f { bookmarks = bookmarks })) (get m name) m
