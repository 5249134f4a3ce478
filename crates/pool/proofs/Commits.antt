-- Once a world is in place, and what is left is done beside it, the pool is sound again.
use Rattle.std.proofs.Common.{◌<◌, ◌^◌, ◌+◌, ◌≤◌, ℕ, List, map}
use Rattle.std.specs.FinSet as set
use Rattle.base.specs.Map.{Block, BlockSet}
use Rattle.zalloc.specs.declared.BlockState.{BlockState}
use Rattle.zalloc.specs.States.{after_group}
use Rattle.tree.specs.Taking.{takes}
use Rattle.model.specs.State.{State}
use Rattle.model.specs.Targets.{guid_limit}
use Rattle.model.specs.World.{SnapId, union_of, reach_of}
use Rattle.world.specs.Tables.{Datasets, world_of}
use Rattle.steps.specs.Settles.{releases}
use Rattle.steps.specs.Steady.{IsSteady}
use Rattle.steps.specs.Edits.{datasets_of, with_datasets, put, lose, with_freeing, synced, viewing, closed, CanPut, CanLose, CanFree, CanChange, CanSync}
use Rattle.steps.specs.Received.{put_freeing, CanReceive}
use Rattle.steps.proofs.quotas.Balanced as balanced
use Rattle.steps.proofs.numbers.Known.{states_of, of_states, are_known}
use Rattle.steps.proofs.requests.Abandoning.{gone_back}
use Rattle.steps.proofs.requests.Losing.{lose_states}
use Rattle.steps.proofs.questions.Properties.{are_balanced}
use Rattle.steps.proofs.numbers.Putting.{put_states, kept_states}
use Rattle.steps.proofs.requests.Receiving.{receive_states}
use Rattle.steps.proofs.requests.Slicing.{freed_states}
use Rattle.steps.proofs.requests.Syncing.{sync_steady, sync_states}
use Rattle.pool.specs.Pools.{synced_numbers, IsSound}

-- what datasets have can be counted by so many bits
pub few : (s : State) (numbers : List BlockState) → IsSound s numbers → set.len (union_of (world_of (datasets_of s))) < 2 ^ 32
few s numbers sound = balanced.few s (are_balanced s sound.steady numbers sound.states) sound.small

module _ (s : State) (numbers : List BlockState) (sound : IsSound s numbers) where
  module _ (to : Datasets) where
    -- once other datasets are in place every number has the state that the worlds give it
    pub sound_changed : (released : List Block) (taken : List ℕ) → CanChange s to released taken
        → IsSound (with_datasets s to) (takes (releases s.last.group numbers released) taken)
    sound_changed released taken can =
        record { steady = can.steady; states = put_states s sound.steady numbers sound.states to released taken can; guids = sound.guids; small = sound.small }

    -- and so it has after a receive
    pub sound_received : (freeing : BlockSet) (released : List Block) (taken : List ℕ) → CanReceive s to freeing released taken
        → IsSound (put_freeing s to freeing) (takes (releases s.last.group numbers released) taken)
    sound_received freeing released taken can = record {
      steady = can.steady;
      states = receive_states s sound.steady numbers sound.states to freeing released taken can;
      guids = sound.guids;
      small = sound.small;
    }

    -- and so it has where the same blocks are reached
    pub sound_put : (guids : ℕ) → CanPut s to guids → s.next_guid + guids ≤ guid_limit + 1 → IsSound (put s to guids) numbers
    sound_put guids can fits = record { steady = can.steady; states = kept_states s numbers sound.states to guids can; guids = fits; small = sound.small }

    -- and where what the datasets have lost is to be freed
    pub sound_lost : CanLose s to → IsSound (lose s to) numbers
    sound_lost can = record { steady = can.steady; states = lose_states s numbers sound.states to can; guids = sound.guids; small = sound.small }

    -- and after a sync
    pub sound_synced : CanSync s to → IsSound (synced s to) (map after_group numbers)
    sound_synced can = record {
      steady = sync_steady s sound.steady to can;
      states = sync_states s sound.steady to can numbers sound.states;
      guids = sound.guids;
      small = sound.small;
    }

  -- and with one more view
  pub sound_viewing : (id : SnapId) → IsSteady (viewing s id) → IsSound (viewing s id) numbers
  sound_viewing id steady =
      record { steady = steady; states = of_states (viewing s id) numbers (states_of s numbers sound.states); guids = sound.guids; small = sound.small }

  -- or without what goes with one that is closed
  pub sound_swept : (number : ℕ) (to : Datasets) → CanLose (closed s number) to → IsSound (lose (closed s number) to) numbers
  sound_swept number to can = record {
    steady = can.steady;
    states = lose_states (closed s number) numbers (of_states (closed s number) numbers (states_of s numbers sound.states)) to can;
    guids = sound.guids;
    small = sound.small;
  }

  -- and where the last synced datasets are back, without what nothing needs there
  pub sound_back : (to : Datasets) → CanLose (gone_back s) to → IsSound (lose (gone_back s) to) (synced_numbers s.size s.last)
  sound_back to can = record {
    steady = can.steady;
    states = lose_states (gone_back s) (synced_numbers s.size s.last) (of_states (gone_back s) (synced_numbers s.size s.last) (are_known (reach_of s.last) (reach_of s.last) s.size)) to can;
    guids = sound.guids;
    small = sound.small;
  }

  -- once a slice is released every number has the state that the worlds give it
  pub sound_freed : (rest : BlockSet) (taken : List Block) → CanFree s rest taken → IsSound (with_freeing s rest) (releases s.last.group numbers taken)
  sound_freed rest taken can =
      record { steady = can.steady; states = freed_states s sound.steady numbers sound.states rest taken can; guids = sound.guids; small = sound.small }
