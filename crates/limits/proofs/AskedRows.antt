-- A request whose row refuses nothing has the limits that the row asks, in the world that is asked and in the one that it leads to.
use Rattle.std.proofs.Common.{◌≡◌, Bool, true, false, not, None, refl, sym, inl, inr}
use Rattle.base.specs.declared.refusal.Refusal.{Refusal}
use Rattle.base.specs.declared.refusal.Refusal.TheVariants.{Quota, RefQuota, NoSpace}
use Rattle.base.specs.Surveys.{IsIn}
use Rattle.base.specs.declared.name.target.Target.{Target}
use Rattle.model.specs.World.{World}
use Rattle.model.specs.State.{State}
use Rattle.model.specs.Edits.{with_now}
use Rattle.model.specs.Fits.{quotas_hold, refquotas_hold, pool_holds, limits_hold}
use Rattle.model.specs.Rule.{Row, first_of}
use Rattle.model.specs.requests.Change.{limit_row, change_row}
use Rattle.world.specs.Worlds.{AreFileSystems}
use Rattle.world.proofs.views.ViewedRequests.{row_false}
use Rattle.limits.specs.Limits.{HasLimits}
use Rattle.limits.specs.Asked.{AreWorldsAlike}
use Rattle.limits.proofs.Limits.{limits_met}
use Rattle.limits.proofs.Asked.{asked_holds}

holds : (b : Bool) → not b ≡ false → b ≡ true
holds true e = refl
holds false e = sym e

-- a row that has the conditions of limits among its own
limits_in : (asked : State) (row : Row) → ((r : Bool × Refusal) → IsIn (limit_row asked) r → IsIn row r) → first_of row ≡ None → limits_hold asked ≡ true
limits_in asked row among none =
    let a = holds (quotas_hold asked.now) (row_false row none (not (quotas_hold asked.now), Quota) (among (not (quotas_hold asked.now), Quota) (inl refl))) in
    let b = holds (refquotas_hold asked.now) (row_false row none (not (refquotas_hold asked.now), RefQuota) (among (not (refquotas_hold asked.now), RefQuota) (inr (inl refl)))) in
    let c = holds (pool_holds asked) (row_false row none (not (pool_holds asked), NoSpace) (among (not (pool_holds asked), NoSpace) (inr (inr (inl refl))))) in
    rw (a, b) c

pub limits_asked : (asked : State) → first_of (limit_row asked) ≡ None → limits_hold asked ≡ true
limits_asked asked = limits_in asked (limit_row asked) (λ r i. i)

-- those of a change of a live map
pub change_asked : (s asked : State) (target : Target) (in_range : Bool) → first_of (change_row s asked target in_range) ≡ None → limits_hold asked ≡ true
change_asked s asked target in_range = limits_in asked (change_row s asked target in_range) (λ r i. inr (inr (inr i)))

-- limits are asked of a world with fresh numbers, and hold of the world with those that are taken
pub change_limits : (s asked : State) (w : World) → AreFileSystems asked.now.file_systems asked.now.group → AreFileSystems w.file_systems w.group
    → AreWorldsAlike asked.now w → limits_hold asked ≡ true → HasLimits s → HasLimits (with_now s w)
change_limits s asked w good good' alike h has = record { now = asked_holds asked.now w good good' alike (limits_met asked h).0; last = has.last }
