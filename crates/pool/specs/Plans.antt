-- What a prepared step will do.
use Rattle.std.specs.Prelude.{◌≡◌, ℕ, false, List, []}
use Rattle.zalloc.specs.declared.BlockState.{BlockState}
use Rattle.model.specs.Edits.{with_now}
use Rattle.model.specs.State.{State}
use Rattle.model.specs.World.{SnapId}
use Rattle.model.specs.Ids.{snap_id}
use Rattle.snap.specs.Viewing.{is_full}
use Rattle.steps.specs.Edits.{viewing}
use Rattle.steps.specs.Steady.{IsSteady}
use Rattle.laws.specs.Both.{AreSnapshotsOne}
use Rattle.pool.specs.Pools.{world_in}
use Rattle.pool.specs.Effects.{effected, blocks_written, keeps_of, Images, Settles}
use Rattle.pool.specs.declared.pool.Plan.{Plan}
use Rattle.pool.specs.declared.pool.Plan.TheVariants.{Nothing, Open, Put}

-- the pool's state after a plan (profile)
abbrev pub state_after_plan : State → Plan → State
state_after_plan s Nothing = s
state_after_plan s (Open snapshot) = viewing s (snap_id snapshot)
state_after_plan s (Put to effect) = effected (with_now s (world_in to)) effect

-- one more view of the snapshot can be open: what holds between two steps holds after it, and there is a number for it (profile)
pub record CanOpen (s : State) (id : SnapId) : Type 0 where
  pub steady : IsSteady (viewing s id)
  pub room : is_full (record { opened = s.views; next = s.next_view }) ≡ false

-- the plan can be done from here (profile)
abbrev pub CanDo : State → List BlockState → Plan → Type 0
CanDo s numbers Nothing = Unit {0}
CanDo s numbers (Open snapshot) = CanOpen s (snap_id snapshot)
CanDo s numbers (Put to effect) = Settles s numbers to effect × Images s to effect × AreSnapshotsOne (effected (with_now s (world_in to)) effect)

-- how often states were put into the image after a plan (profile)
abbrev pub keeps_after_plan : ℕ → Plan → ℕ
keeps_after_plan keeps Nothing = keeps
keeps_after_plan keeps (Open snapshot) = keeps
keeps_after_plan keeps (Put to effect) = keeps_of keeps effect

-- the blocks that it writes into an image of these bytes, each with its number (profile)
abbrev pub writes_of_plan : List ℕ → Plan → List (ℕ × List ℕ)
writes_of_plan bytes (Put to effect) = blocks_written bytes effect
writes_of_plan bytes plan = []
