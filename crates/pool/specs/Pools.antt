-- What a pool keeps between two steps.
use Rattle.std.specs.Prelude.{◌≡◌, ◌+◌, ◌≤◌, ◌<◌, ◌^◌, ℕ, Some, List, map}
use Rattle.std.specs.FinMap.{get}
use Rattle.zalloc.specs.declared.BlockState.{BlockState}
use Rattle.model.specs.State.{State, Views}
use Rattle.model.specs.Targets.{guid_limit}
use Rattle.model.specs.Numbers.{HasStates}
use Rattle.model.specs.Ids.{snap_id}
use Rattle.model.specs.World.{World as OneWorld, SnapId}
use Rattle.world.specs.Tables.{world_of}
use Rattle.removals.specs.Requests.{IsSweptBut}
use Rattle.steps.specs.Handed.{IsAccounted}
use Rattle.steps.specs.Steady.{IsSteady}
use Rattle.laws.specs.Both.{AreSnapshotsOne}
use Rattle.pool.specs.Images.{IsImageOf}
pub use Rattle.pool.specs.Numbers.{synced_numbers}
use Rattle.pool.specs.Shown.{Shown, shown}
use Rattle.pool.specs.declared.worlds.World.{World}
use Rattle.pool.specs.declared.keep.Keep.{Keep}
use Rattle.pool.specs.declared.keep.Meters.{Meters}

-- a world that a pool keeps: its datasets, and what is to be freed (profile)
abbrev pub world_in : World → OneWorld
world_in w = record (world_of w.table) { freeing = w.freeing }

-- the pool's state, with this as its present world (profile)
abbrev pub state_in : Keep → World → State
state_in k w = record {
  now = world_in w;
  last = world_in k.last;
  views = k.views.opened;
  next_guid = k.next_guid;
  next_view = k.views.next;
  size = k.size;
  pool = k.id;
}

-- what contracts see of a pool of these (profile)
abbrev pub shown_in : Keep → World → Meters → Shown
shown_in k w m = shown (state_in k w) k.numbers.present k.image m.blocks m.segments

-- the facts of the worlds hold, each number has the state that the worlds give it, the counter of guids is no further than past its last
-- number, and blocks can be counted (profile)
pub record IsSound (s : State) (numbers : List BlockState) : Type 0 where
  pub steady : IsSteady s
  pub states : HasStates s numbers
  pub guids : s.next_guid ≤ guid_limit + 1
  pub small : s.size < 2 ^ 32

-- the ledger of a world is that of its datasets (profile)
abbrev pub IsKept : World → Type 0
IsKept w = IsAccounted w.table w.ledger

-- each open view has a number below this one (profile)
abbrev pub AreBelow : Views → ℕ → Type 0
AreBelow views next = (v : ℕ) (id : SnapId) → get views v ≡ Some id → v < next

-- the pool is sound with this present world, both worlds have their ledgers, no open view has a number that is still to be given, the states
-- of the last sync are those that its world gives, no snapshot of that waited for a sweep but for a view, a snapshot of both worlds has one map,
-- and the image is that of both worlds (profile)
pub record IsHeld (k : Keep) (w : World) : Type 0 where
  pub sound : IsSound (state_in k w) k.numbers.present
  pub now : IsKept w
  pub last : IsKept k.last
  pub views : AreBelow k.views.opened k.views.next
  pub synced : k.numbers.synced ≡ synced_numbers k.size (world_in k.last)
  pub swept : IsSweptBut k.last.table (map snap_id k.viewed.items)
  pub one : AreSnapshotsOne (state_in k w)
  pub image : IsImageOf (state_in k w) k.image
