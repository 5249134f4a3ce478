-- Space, as the sizes of sets of blocks (zfsprops(7) and zpoolprops(7), under the property's name).
use Rattle.std.specs.Prelude.{◌≡◌, ℕ, zero, suc, ◌+◌, ◌-◌, Bool, not, List, [], ◌∷◌, Option, None, Some, max, min, map, count_by}
use Rattle.std.specs.List.{sum, range_with_len, filter, flat_map, list_any}
use Rattle.std.specs.Option.{unwrap_or, option_map_or}
use Rattle.std.specs.FinMap.{len, values}
use Rattle.std.specs.FinSet as set
use Rattle.base.specs.Map.{BlockSet, blocks}
use Rattle.base.specs.Names.{root_name, parent_of}
use Rattle.model.specs.World.{World, FileSystem, SnapId, Dataset, Live, Snapped, id_of, same_id, file_system_at, previous_of, map_of, map_of_snap, blocks_of_all, union_of, reach_of, children_of}
use Rattle.zalloc.specs.States.{is_free}
use Rattle.model.specs.State.{State, waiting_of, block_state}

-- how many blocks one set has that another hasn't (profile)
abbrev pub size_without : BlockSet → BlockSet → ℕ
size_without a b = set.len (set.difference a b)

-- zfsprops(7), referenced
unfoldable pub referenced_of : World → Dataset → ℕ
referenced_of w d = set.len (blocks (map_of w d))

-- zfsprops(7), written
unfoldable pub written_of : World → Dataset → ℕ
written_of w d = size_without (blocks (map_of w d)) (blocks (map_of_snap w (previous_of w d)))

-- zfsprops(7), written@snapshot
unfoldable pub written_since : World → Dataset → SnapId → ℕ
written_since w d id = size_without (blocks (map_of w d)) (blocks (map_of w (Snapped id)))

-- the blocks of all datasets but the snapshots that go (zfs-destroy(8), -nv)
abbrev pub union_without : World → (SnapId → Bool) → BlockSet
union_without w goes =
    blocks_of_all (flat_map (λ s. s.live ∷ map (λ t. t.map) (filter (λ t. not (goes (id_of t))) s.snaps)) (values w.file_systems))

-- zfsprops(7), used, of a snapshot: what it alone has among all datasets, its clones too (the latter is profile)
unfoldable pub used_by_snap : World → SnapId → ℕ
used_by_snap w id = size_without (blocks (map_of w (Snapped id))) (union_without w (same_id id))

-- what all datasets together lose where these snapshots go (zfs-destroy(8), -nv)
unfoldable pub would_free : World → List SnapId → ℕ
would_free w ids = size_without (union_of w) (union_without w (λ id. list_any (same_id id) ids))

-- zfsprops(7), usedbydataset
abbrev pub used_by_dataset : World → FileSystem → ℕ
used_by_dataset w s = size_without (blocks s.live) (blocks (map_of_snap w s.origin))

-- zfsprops(7), usedbysnapshots: neither in the live map nor in the origin (the latter is profile)
abbrev pub used_by_snapshots : World → FileSystem → ℕ
used_by_snapshots w s = size_without (blocks_of_all (map (λ t. t.map) s.snaps)) (blocks_of_all (s.live ∷ map_of_snap w s.origin ∷ []))

-- zfsprops(7), usedbyrefreservation
abbrev pub used_by_refreservation : World → List ℕ → FileSystem → ℕ
used_by_refreservation w name s = unwrap_or s.limits.refreservation 0 - written_of w (Live name)

-- what of `used` isn't its children's (zfsprops(7), used)
abbrev pub used_here : World → List ℕ → ℕ
used_here w name =
    option_map_or (λ s. used_by_dataset w s + used_by_snapshots w s + used_by_refreservation w name s) (file_system_at w name) 0

-- zfsprops(7), reservation
abbrev pub reservation_of : World → List ℕ → ℕ
reservation_of w name = option_map_or (λ s. unwrap_or s.limits.reservation 0) (file_system_at w name) 0

-- to this depth of the hierarchy: the sum over the children of `max(used, reservation)` (zfsprops(7), usedbychildren)
abbrev pub children_within : World → ℕ → List ℕ → ℕ
children_within w zero name = 0
children_within w (suc depth) name =
    sum (map (λ child. max (used_here w child + children_within w depth child) (reservation_of w child)) (children_of w name))

-- zfsprops(7), usedbychildren. The hierarchy is no deeper than there are file systems
unfoldable pub used_by_children : World → List ℕ → ℕ
used_by_children w name = children_within w (len w.file_systems) name

-- zfsprops(7), used, of a file system
unfoldable pub used_of : World → List ℕ → ℕ
used_of w name = used_here w name + used_by_children w name

-- what is left of a room within a quota, of which so much is used (zfsprops(7), available)
abbrev pub within_quota : Option ℕ → ℕ → ℕ → ℕ
within_quota None used room = room
within_quota (Some quota) used room = min room (quota - used)

-- what of a reservation isn't used (zfsprops(7), reservation)
abbrev pub unspent_of : World → List ℕ → ℕ
unspent_of w name = reservation_of w name - used_of w name

-- what of the pool is neither used nor freeing nor waiting (zfsprops(7), available)
unfoldable pub pool_room : State → ℕ
pool_room s = s.size - used_of s.now root_name - set.len s.now.freeing - set.len (waiting_of s)

-- what is available to the file system of this name, to this depth of the hierarchy: what is to the one above it, and what of its
-- reservation isn't used; the root has the pool's room (zfsprops(7), available)
abbrev pub room_within : State → ℕ → List ℕ → ℕ
room_within s zero name = 0
room_within s (suc depth) name =
    option_map_or (λ f. within_quota f.limits.quota (used_of s.now name)
    (option_map_or (λ above. room_within s depth above + unspent_of s.now name) (parent_of name) (pool_room s))) (file_system_at s.now name) 0

-- zfsprops(7), available. The refquota and what isn't spent of a refreservation don't enter it (profile). The hierarchy is no deeper than
-- there are file systems
unfoldable pub room_of : State → List ℕ → ℕ
room_of s name = room_within s (len s.now.file_systems) name

-- zpoolprops(7), allocated: the blocks that a dataset has or that are still to be freed
unfoldable pub allocated_of : State → ℕ
allocated_of s = set.len (reach_of s.now)

-- zpoolprops(7), free: the numbers that no such block has, and that no block has which waits
unfoldable pub free_of : State → ℕ
free_of s = count_by (λ n. is_free (block_state s n)) (range_with_len 0 s.size)

-- zpoolprops(7), freeing
unfoldable pub freeing_of : State → ℕ
freeing_of s = set.len s.now.freeing

-- how many blocks wait for the next sync (profile)
unfoldable pub waiting_count : State → ℕ
waiting_count s = set.len (waiting_of s)

-- each block of the pool is allocated, free or waiting (zpoolprops(7): size, allocated, free; waiting is profile)
abbrev pub IsBalanced : State → Type 0
IsBalanced s = s.size ≡ allocated_of s + free_of s + waiting_count s
