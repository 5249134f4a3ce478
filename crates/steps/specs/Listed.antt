-- The names that List answers, row by row.
use Rattle.std.specs.Prelude.{ℕ, List}
use Rattle.model.specs.World.{FileSystem}
use Rattle.model.specs.Properties.{names_of}

-- a file system's name, those of its snapshots, and those of its bookmarks (zfs-list(8))
abbrev pub own_names : List ℕ × FileSystem → List (List ℕ)
own_names e = names_of e
