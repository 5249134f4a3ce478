-- Other datasets in the place of a pool's, and what they have lost to be freed: what holds between two steps holds again, and the same
-- blocks are reached.
use Rattle.std.proofs.Common.{◌≡◌, ℕ, List, Some, refl, sym, subst, arith}
use Rattle.std.specs.FinMap.{get}
use Rattle.std.specs.Option.{IsSome}
use Rattle.zalloc.specs.declared.BlockState.{BlockState}
use Rattle.model.specs.World.{World, SnapId, snap_at, reach_of}
use Rattle.model.specs.State.{State}
use Rattle.model.specs.Numbers.{HasStates}
use Rattle.world.specs.Worlds.{AreFileSystems, AreMapsFrom, IsPoolState, IsSwept}
use Rattle.world.specs.Tables.{Datasets}
use Rattle.world.proofs.changes.Kept.{world_losses, pair_losses, losses_reach}
use Rattle.limits.specs.Limits.{HasLimits}
use Rattle.steps.specs.Settles.{AreStatesOf}
use Rattle.steps.specs.Steady.{IsSteady}
use Rattle.steps.specs.Edits.{lose, CanLose}
use Rattle.steps.proofs.quotas.Bounded.{IsUnasked}
use Rattle.steps.proofs.numbers.Known.{states_of, of_states}

module _ (s : State) (steady : IsSteady s) (t : Datasets) (good : AreFileSystems t.file_systems t.group) (open_is : t.group ≡ s.now.group)
    (from : AreMapsFrom s.now.file_systems t.file_systems)
    (seen : (v : ℕ) (id : SnapId) → get s.views v ≡ Some id → IsSome (snap_at (record s.now { file_systems = t.file_systems; group = t.group }) id)) (clean : IsSwept (lose s t)) where
  abbrev new : World
  new = record s.now { file_systems = t.file_systems; group = t.group }

  lost_good : IsPoolState (lose s t)
  lost_good = record {
    now = world_losses s.size s.now new steady.good.now from good refl;
    last = steady.good.last;
    pair = pair_losses s.size s.now new steady.good.now from good refl s.last (let e = open_is in omega arith) steady.good.pair;
    views = seen;
  }

  -- what holds of them whatever the limits
  pub lost_unasked : IsUnasked s (lose s t)
  lost_unasked = record { good = lost_good; swept = clean; reach = losses_reach s.size s.now new steady.good.now from good refl; last = refl; size = refl }

  pub can_lose : (IsPoolState (lose s t) → HasLimits (lose s t)) → CanLose s t
  can_lose limits = record {
    steady = record { good = lost_good; swept = clean; limits = limits lost_good };
    reach = lost_unasked.reach;
  }

-- no number changes its state
pub lose_states : (s : State) (numbers : List BlockState) → HasStates s numbers → (t : Datasets) → CanLose s t → HasStates (lose s t) numbers
lose_states s numbers known t can =
    of_states (lose s t) numbers (subst (λ r. AreStatesOf r (reach_of s.last) s.size numbers) (sym can.reach) (states_of s numbers known))
