-- The states of all numbers, and how a change of the present world settles them.
use Rattle.std.specs.Prelude.{◌≡◌, ◌<◌, ◌≤◌, ℕ, ◌⊎◌, List, [], ◌∷◌, Some, if◌then◌else◌, nat_lt, length, slice_get, slice_set}
use Rattle.std.specs.FinSet.{difference}
use Rattle.base.specs.Map.{Block, BlockSet}
use Rattle.base.specs.Surveys.{IsIn}
use Rattle.zalloc.specs.declared.BlockState.{BlockState}
use Rattle.zalloc.specs.declared.BlockState.TheVariants.{Free, Allocated, Waiting}
use Rattle.model.specs.State.{is_number_of}

-- the state of a number, from the blocks that the present world reaches and those that the last synced one does (profile)
abbrev pub state_at : BlockSet → BlockSet → ℕ → BlockState
state_at now last n = if is_number_of now n then Allocated else if is_number_of (difference last now) n then Waiting else Free

-- the state of a block that is released: it waits where it was born before the group (profile)
abbrev pub released_state : ℕ → Block → BlockState
released_state g b = if nat_lt b.birth g then Waiting else Free

-- each block of the list released (profile)
abbrev pub releases : ℕ → List BlockState → List Block → List BlockState
releases g states [] = states
releases g states (b ∷ bs) = releases g (slice_set states b.number (released_state g b)) bs

-- each block of the list is Allocated when its turn comes (profile)
abbrev pub AllAllocated : ℕ → List BlockState → List Block → Type 0
AllAllocated g states [] = Unit {0}
AllAllocated g states (b ∷ bs) =
    (slice_get states b.number ≡ Some Allocated) × AllAllocated g (slice_set states b.number (released_state g b)) bs

-- the states of the numbers, from the blocks that both worlds reach (profile)
pub record AreStatesOf (now last : BlockSet) (size : ℕ) (states : List BlockState) : Type 0 where
  pub count : length states ≡ size
  pub each : (n : ℕ) → n < size → slice_get states n ≡ Some (state_at now last n)

-- each number is Free, or that of a released block born from the group `young` on (profile)
abbrev pub AreTakable : List BlockState → ℕ → List Block → List ℕ → Type 0
AreTakable states young released taken =
    (n : ℕ) → IsIn taken n → (slice_get states n ≡ Some Free) ⊎ ((b : Block) × IsIn released b × (young ≤ b.birth) × (b.number ≡ n))
