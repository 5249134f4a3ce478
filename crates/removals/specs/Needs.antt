-- What keeps a snapshot: a tag, an open view, or a clone.
use Rattle.std.specs.Prelude.{ℕ, Bool, ◌&&◌, ◌||◌, length, nat_lt}
use Rattle.model.specs.World.{Snap, SnapId, id_of, clones_of}
use Rattle.model.specs.State.{Views, is_viewed}
use Rattle.world.specs.Tables.{Datasets, world_of}

-- a tag or an open view keeps the snapshot (zfs-hold(8); the view is profile)
abbrev pub is_held : Views → Snap → Bool
is_held views s = nat_lt 0 (length s.tags) || is_viewed views (id_of s)

-- a snapshot of a later group than this one that a tag or an open view keeps (zfs-hold(8); the view is profile)
abbrev pub is_held_after : Views → ℕ → Snap → Bool
is_held_after views group s = nat_lt group s.group && is_held views s

-- the snapshot of this identity has a clone (zfsprops(7): clones)
abbrev pub has_clone : Datasets → SnapId → Bool
has_clone t id = nat_lt 0 (length (clones_of (world_of t) id))

-- a snapshot of a later group than this one that has a clone (zfsprops(7): clones)
abbrev pub has_clone_and_is_later : Datasets → ℕ → Snap → Bool
has_clone_and_is_later t group s = nat_lt group s.group && has_clone t (id_of s)

-- a tag, an open view or a clone needs the snapshot (zfs-destroy(8), -d; the view is profile)
abbrev pub is_kept : Datasets → Views → Snap → Bool
is_kept t views s = is_held views s || has_clone t (id_of s)
