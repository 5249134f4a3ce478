-- Names that are too long under a name of their file system.
use Rattle.std.specs.Prelude.{ℕ, ◌+◌, ◌||◌, Bool, List, length, nat_lt}
use Rattle.std.specs.List.{list_any}
use Rattle.std.specs.FinMap.{keys}
use Rattle.base.specs.Names.{name_limit}
use Rattle.model.specs.World.{FileSystem, Snap}

-- the whole name of a snapshot or a bookmark is too long after a file system's name of n bytes (zfs(8); the limit is profile)
abbrev pub is_long : ℕ → List ℕ → Bool
is_long n component = nat_lt name_limit (n + 1 + length component)

-- so it is with one of these snapshots (zfs(8))
abbrev pub any_long : ℕ → List Snap → Bool
any_long n snaps = list_any (λ t. is_long n t.name) snaps

-- under a name of n bytes the file system's own name is too long, or the whole name of a snapshot or a bookmark (zfs(8))
abbrev pub has_long : ℕ → FileSystem → Bool
has_long n f = nat_lt name_limit n || (any_long n f.snaps || list_any (is_long n) (keys f.bookmarks))
