-- The pool's state.
use Rattle.std.specs.Prelude.{ℕ, Bool, ◌==◌, nat_lt, if◌then◌else◌}
use Rattle.std.specs.List.{list_any}
use Rattle.std.specs.Ordering.{nat_cmp}
use Rattle.std.specs.FinMap.{FinMap, values}
use Rattle.std.specs.FinMap as finmap
use Rattle.std.specs.FinSet as set
use Rattle.base.specs.Names.{root_name}
use Rattle.base.specs.Map.{BlockSet}
use Rattle.zalloc.specs.declared.BlockState.{BlockState}
use Rattle.zalloc.specs.declared.BlockState.TheVariants.{Free, Allocated, Waiting}
use Rattle.model.specs.World.{World, SnapId, same_id, empty_file_system, reach_of}

-- the open views by their numbers, each with its snapshot (profile; a view counts as a hold, zfs-hold(8))
abbrev pub Views : Type 0
Views = FinMap nat_cmp SnapId

-- all that the pool is, between two steps: the present world and the one that the last sync left, the open views, each with its
-- snapshot, the next guid's counter, the next view's number, how many blocks the pool has, and its id (profile)
pub record State : Type 0 where
  pub now : World
  pub last : World
  pub views : Views
  pub next_guid : ℕ
  pub next_view : ℕ
  pub size : ℕ
  pub pool : ℕ

-- the blocks that wait for the next sync: the last synced world has them and the present one hasn't (profile)
unfoldable pub waiting_of : State → BlockSet
waiting_of s = set.difference (reach_of s.last) (reach_of s.now)

-- a view of the snapshot is open (profile)
abbrev pub is_viewed : Views → SnapId → Bool
is_viewed views id = list_any (same_id id) (values views)

-- the root file system alone, empty, in group 1 (profile)
unfoldable pub fresh_world : World
fresh_world = record { file_systems = finmap.insert finmap.empty root_name empty_file_system; freeing = set.empty; group = 1 }

-- a pool as it is created, with this id and so many blocks (zpool-create(8))
unfoldable pub fresh_state : ℕ → ℕ → State
fresh_state id size = record {
  now = fresh_world;
  last = fresh_world;
  views = finmap.empty;
  next_guid = 1;
  next_view = 1;
  size = size;
  pool = id;
}

-- a block of the set has this number (On-Disk Specification, chapter 2)
abbrev pub is_number_of : BlockSet → ℕ → Bool
is_number_of blocks n = nat_lt 0 (set.len (set.retain blocks (λ b. b.number == n)))

-- a number is allocated where a block that is reached has it, it waits where one that waits has it, and else it is free
-- (zpoolprops(7): allocated, free; waiting is profile)
unfoldable pub block_state : State → ℕ → BlockState
block_state s n =
    if is_number_of (reach_of s.now) n then Allocated else if is_number_of (waiting_of s) n then Waiting else Free
