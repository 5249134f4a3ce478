-- What a receive asks limits of, and what it puts in the place of a pool's datasets.
use Rattle.std.specs.Prelude.{◌≡◌, ◌<◌, ◌≤◌, ◌⊎◌, ℕ, List}
use Rattle.base.specs.Map.{Block, BlockSet}
use Rattle.base.specs.Surveys.{IsIn}
use Rattle.zalloc.specs.declared.BlockState.TheVariants.{Free}
use Rattle.base.specs.declared.name.member.Member.{Member}
use Rattle.stream.specs.Spelling.{Sending}
use Rattle.model.specs.declared.receiving.Receiving.{Receiving}
use Rattle.model.specs.World.{reach_of}
use Rattle.model.specs.State.{State, block_state}
use Rattle.model.specs.Edits.{with_now}
use Rattle.model.specs.Refusals.{fresh_number}
use Rattle.model.specs.requests.Receive.{received}
use Rattle.world.specs.Plans.{IsSettling}
use Rattle.world.specs.Tables.{Datasets}
use Rattle.steps.specs.Steady.{IsSteady}
use Rattle.steps.specs.Edits.{with_datasets, with_freeing}

-- with all records in force, by new blocks whose numbers no block has, and the live map kept as the snapshot (zfs-receive(8); when limits are
-- asked is profile)
abbrev pub asked_by_receive : State → Member → Sending → Receiving → State
asked_by_receive s m sent mode = with_now s (received s.now m sent mode (fresh_number s))

-- the same state with these datasets, where this is to be freed (zpool-features(7): async_destroy)
abbrev pub put_freeing : State → Datasets → BlockSet → State
put_freeing s t freeing = with_freeing (with_datasets s t) freeing

-- They can be put there so once these blocks are released and these numbers are taken: what holds between two steps holds after it, and
-- each number is Free, or that of a released block that the last synced world hasn't (profile)
pub record CanReceive (s : State) (t : Datasets) (freeing : BlockSet) (released : List Block) (taken : List ℕ) : Type 0 where
  pub steady : IsSteady (put_freeing s t freeing)
  pub settling : IsSettling (reach_of s.now) (reach_of (put_freeing s t freeing).now) (reach_of s.last) s.last.group released taken
  pub takable :
      (n : ℕ) → IsIn taken n
      → ((n < s.size) × (block_state s n ≡ Free)) ⊎ ((b : Block) × IsIn released b × (s.last.group ≤ b.birth) × (b.number ≡ n))
