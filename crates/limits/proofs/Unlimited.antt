-- Where no file system has a limit, the limits ask only that the blocks that are reached or wait are no more than the pool has.
use Rattle.std.proofs.Common.{◌≡◌, ◌+◌, true, sym, ap, subst, arith}
use Rattle.std.specs.Prelude.{nat_le, max}
use Rattle.std.specs.FinSet.{len, union}
use Rattle.base.specs.Names.{root_name}
use Rattle.model.specs.World.{World, Live, union_of, reach_of}
use Rattle.model.specs.State.{State, waiting_of}
use Rattle.model.specs.Sums.{used_of, referenced_of, reservation_of}
use Rattle.model.specs.Fits.{quotas_hold, refquotas_hold, pool_holds}
use Rattle.world.specs.Sets.{AreDisjoint}
use Rattle.world.specs.Worlds.{AreFileSystems}
use Rattle.limits.specs.Limits.{IsUnlimited, IsWithin}
use Rattle.limits.proofs.Root.{root_uses_union, nothing_reserved}
use Rattle.limits.proofs.Limits.{met_quotas, met_refquotas}
use Rattle.limits.proofs.Pool.{reached_is, taken_is}

-- ---- no quota is set

pub quotas_unlimited : (w : World) → IsUnlimited w.file_systems → quotas_hold w ≡ true
quotas_unlimited w unlimited = met_quotas w (λ name s at. subst (λ l. IsWithin (used_of w name) l.quota) (sym (unlimited name s at)) tt)

pub refquotas_unlimited : (w : World) → IsUnlimited w.file_systems → refquotas_hold w ≡ true
refquotas_unlimited w unlimited =
    met_refquotas w (λ name s at. subst (λ l. IsWithin (referenced_of w (Live name)) l.refquota) (sym (unlimited name s at)) tt)

-- ---- nothing is reserved

-- what is used, reserved, freeing and waiting is what both worlds reach
pub taken_unlimited : (s : State) → AreFileSystems s.now.file_systems s.now.group → AreDisjoint (union_of s.now) s.now.freeing → IsUnlimited s.now.file_systems
    → max (used_of s.now root_name) (reservation_of s.now root_name) + len s.now.freeing + len (waiting_of s) ≡ len (union (reach_of s.now) (reach_of s.last))
taken_unlimited s good apart unlimited =
    let used = root_uses_union s.now good unlimited in
    let reserved = nothing_reserved s.now unlimited root_name in
    let reached = reached_is s.now apart in
    let both = taken_is s in
    omega (arith, used, reserved, reached, both)

-- so the pool has room where these are no more than its blocks
pub pool_unlimited : (s : State) → AreFileSystems s.now.file_systems s.now.group → AreDisjoint (union_of s.now) s.now.freeing → IsUnlimited s.now.file_systems
    → pool_holds s ≡ nat_le (len (union (reach_of s.now) (reach_of s.last))) s.size
unfolding pool_holds
pool_unlimited s good apart unlimited = ap (λ n. nat_le n s.size) (taken_unlimited s good apart unlimited)
