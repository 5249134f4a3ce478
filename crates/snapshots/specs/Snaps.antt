-- Snapshots by their parts.
use Rattle.std.specs.Prelude.{ℕ, List, [], Option, None, Some, false}
use Rattle.base.specs.Map.{Map}
use Rattle.model.specs.World.{Snap}

-- a snapshot that has no tag and isn't deferred (zfs-snapshot(8))
abbrev pub plain_snap : List ℕ → Map → ℕ → ℕ → Snap
plain_snap name map guid group = record { name = name; map = map; guid = guid; group = group; tags = []; deferred = false }

-- its tags, and none where it has none yet (zfs-hold(8))
abbrev pub tags_in : Option (List (List ℕ)) → List (List ℕ)
tags_in None = []
tags_in (Some tags) = tags
