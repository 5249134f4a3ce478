-- Other datasets put in the place of a pool's, and what that does to its numbers.
use Rattle.std.specs.Prelude.{◌≡◌, ◌<◌, ◌≤◌, ◌⊎◌, ◌+◌, ℕ, List, [], false}
use Rattle.base.specs.Map.{Block, BlockSet}
use Rattle.base.specs.Surveys.{IsIn}
use Rattle.zalloc.specs.declared.BlockState.TheVariants.{Free}
use Rattle.std.specs.FinMap.{insert, remove}
use Rattle.model.specs.World.{SnapId, reach_of}
use Rattle.model.specs.State.{State, block_state}
use Rattle.model.specs.Edits.{with_now, with_losses}
use Rattle.model.specs.Targets.{has_no_next_group}
use Rattle.world.specs.Plans.{IsSettling}
use Rattle.world.specs.Tables.{Datasets}
use Rattle.limits.specs.Limits.{IsUnlimited}
use Rattle.steps.specs.Steady.{IsSteady}

-- the datasets of a state's present world (profile)
abbrev pub datasets_of : State → Datasets
datasets_of s = record { file_systems = s.now.file_systems; group = s.now.group }

-- the same state with these datasets (profile)
abbrev pub with_datasets : State → Datasets → State
with_datasets s t = with_now s (record s.now { file_systems = t.file_systems; group = t.group })

-- the same state with these datasets, which so many guids were made for (profile)
abbrev pub put : State → Datasets → ℕ → State
put s t guids = record (with_datasets s t) { next_guid = s.next_guid + guids }

-- the pool with these datasets, once they are synced: the last synced world is theirs (zpool-sync(8))
abbrev pub synced : State → Datasets → State
synced s t = record s { now = record s.now { file_systems = t.file_systems; group = t.group }; last = record s.now { file_systems = t.file_systems; group = t.group } }

-- where no file system has a limit, none of these has one (zfsprops(7): quota, refquota, reservation, refreservation)
abbrev pub StaysUnlimited : State → Datasets → Type 0
StaysUnlimited s t = IsUnlimited s.now.file_systems → IsUnlimited t.file_systems

-- They can be put there, and no number changes its state: what holds between two steps holds after it, and the same blocks are
-- reached (profile)
pub record CanPut (s : State) (t : Datasets) (guids : ℕ) : Type 0 where
  pub steady : IsSteady (put s t guids)
  pub reach : reach_of (put s t guids).now ≡ reach_of s.now

-- the state with these datasets, where what all datasets together have lost is to be freed (zpool-features(7): async_destroy)
abbrev pub lose : State → Datasets → State
lose s t = with_now s (with_losses s.now (record s.now { file_systems = t.file_systems; group = t.group }))

-- They can be put there so, and no number changes its state: what holds between two steps holds after it, and the same blocks are
-- reached (profile)
pub record CanLose (s : State) (t : Datasets) : Type 0 where
  pub steady : IsSteady (lose s t)
  pub reach : reach_of (lose s t).now ≡ reach_of s.now

-- They can be put there once these blocks are released and these numbers are taken: what holds between two steps holds after it,
-- and each number is Free, or that of a released block that the last synced world hasn't (profile)
pub record CanChange (s : State) (t : Datasets) (released : List Block) (taken : List ℕ) : Type 0 where
  pub steady : IsSteady (with_datasets s t)
  pub settling : IsSettling (reach_of s.now) (reach_of (with_datasets s t).now) (reach_of s.last) s.last.group released taken
  pub takable :
      (n : ℕ) → IsIn taken n
      → ((n < s.size) × (block_state s n ≡ Free)) ⊎ ((b : Block) × IsIn released b × (s.last.group ≤ b.birth) × (b.number ≡ n))

-- the state where this is to be freed (zpool-features(7): async_destroy)
abbrev pub with_freeing : State → BlockSet → State
with_freeing s rest = with_now s (record s.now { freeing = rest })

-- This may be what is still to be freed, once these blocks are released: what holds between two steps holds after it, and no number is
-- taken (zpool-features(7): async_destroy)
pub record CanFree (s : State) (rest : BlockSet) (released : List Block) : Type 0 where
  pub steady : IsSteady (with_freeing s rest)
  pub settling : IsSettling (reach_of s.now) (reach_of (with_freeing s rest).now) (reach_of s.last) s.last.group released []

-- a sync can leave them: they are the present ones in the next group, which there is (zpool-sync(8); numbers are profile)
pub record CanSync (s : State) (t : Datasets) : Type 0 where
  pub is : t ≡ record (datasets_of s) { group = s.now.group + 1 }
  pub next : has_no_next_group s.now ≡ false

-- the state where one more view is open, of the snapshot of this identity (profile)
abbrev pub viewing : State → SnapId → State
viewing s id = record s { views = insert s.views s.next_view id; next_view = s.next_view + 1 }

-- the state where the view of this number isn't open (profile)
abbrev pub closed : State → ℕ → State
closed s number = record s { views = remove s.views number }
