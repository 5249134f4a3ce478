-- Worlds that differ in one place.
use Rattle.std.specs.Prelude.{ℕ, ◌+◌, Bool, not, List, map, if◌then◌else◌}
use Rattle.std.specs.List.{filter}
use Rattle.std.specs.Option.{option_map_or}
use Rattle.std.specs.FinMap.{entries, insert, from_entries}
use Rattle.std.specs.FinSet as set
use Rattle.base.specs.declared.number.Key.{Key}
use Rattle.base.specs.Rewrite.{Changes, rewrite}
use Rattle.model.specs.World.{World, FileSystem, Snap, SnapId, id_of, same_id, file_system_at, union_of}
use Rattle.model.specs.State.{State}

-- one file system changed (profile)
abbrev pub with_file_system : World → List ℕ → (FileSystem → FileSystem) → World
with_file_system w name change =
    option_map_or (λ s. record w { file_systems = insert w.file_systems name (change s) }) (file_system_at w name) w

-- every file system changed (profile)
abbrev pub with_file_systems : World → (List ℕ → FileSystem → FileSystem) → World
with_file_systems w change = record w { file_systems = from_entries (map (λ e. (e.0, change e.0 e.1)) (entries w.file_systems)) }

-- what all datasets together have lost joins `freeing` (zpool-features(7): async_destroy)
abbrev pub with_losses : World → World → World
with_losses old new = record new { freeing = set.union new.freeing (set.difference (union_of old) (union_of new)) }

-- a live map rewritten, with new blocks of these numbers, born in the open group (On-Disk Specification, chapter 2: birth)
abbrev pub after_change : World → List ℕ → Changes → (Key → ℕ) → World
after_change w name c number = with_file_system w name (λ s. record s { live = rewrite s.live c w.group number })

-- the next group opened (profile)
abbrev pub with_next_group : World → World
with_next_group w = record w { group = w.group + 1 }

-- snapshots gone (zfs-destroy(8))
abbrev pub without_snaps : World → (Snap → Bool) → World
without_snaps w goes = with_file_systems w (λ _ s. record s { snaps = filter (λ t. not (goes t)) s.snaps })

-- the snapshot of this identity with other tags (zfs-hold(8), zfs-release(8))
abbrev pub with_tags : World → SnapId → List (List ℕ) → World
with_tags w id tags =
    with_file_systems w (λ _ s. record s { snaps = map {A = Snap} (λ t. if same_id (id_of t) id then record t { tags = tags } else t) s.snaps })

-- the same state with another present world (profile)
abbrev pub with_now : State → World → State
with_now s w = record s { now = w }
