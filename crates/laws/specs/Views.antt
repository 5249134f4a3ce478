-- When views are as the laws of runs ask of them.
use Rattle.std.specs.Prelude.{◌≡◌, ◌<◌, ℕ, Some}
use Rattle.std.specs.FinMap.{get}
use Rattle.model.specs.World.{SnapId}
use Rattle.model.specs.State.{State}
use Rattle.world.specs.RunLaws.{IsViewing}
use Rattle.world.specs.Worlds.{IsPoolState}

-- no open view has a number that is still to be given (profile)
abbrev pub AreViewsNumbered : State → Type 0
AreViewsNumbered s = (v : ℕ) (id : SnapId) → get s.views v ≡ Some id → v < s.next_view

-- a pool's state with such numbers is one of which the laws on views speak (profile)
abbrev pub PoolsAreViewing : Type 0
PoolsAreViewing = (s : State) → IsPoolState s → AreViewsNumbered s → IsViewing s
