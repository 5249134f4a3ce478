-- Limits (zfsprops(7): quota, refquota, reservation, refreservation; when they are asked is profile).
use Rattle.std.specs.Prelude.{◌+◌, Bool, true, ◌&&◌, max, nat_le}
use Rattle.std.specs.List.{list_all}
use Rattle.std.specs.Option.{option_map_or}
use Rattle.std.specs.FinMap.{entries}
use Rattle.std.specs.FinSet as set
use Rattle.base.specs.Names.{root_name}
use Rattle.model.specs.World.{World, Live}
use Rattle.model.specs.State.{State, waiting_of}
use Rattle.model.specs.Sums.{used_of, referenced_of, reservation_of}

-- zfsprops(7), quota: of every file system
unfoldable pub quotas_hold : World → Bool
quotas_hold w = list_all (λ e. option_map_or (nat_le (used_of w e.0)) e.1.limits.quota true) (entries w.file_systems)

-- zfsprops(7), refquota: of every file system
unfoldable pub refquotas_hold : World → Bool
refquotas_hold w =
    list_all (λ e. option_map_or (nat_le (referenced_of w (Live e.0))) e.1.limits.refquota true) (entries w.file_systems)

-- the pool has room for what is used, reserved, freeing and waiting (zfsprops(7), reservation)
unfoldable pub pool_holds : State → Bool
pool_holds s =
    nat_le (max (used_of s.now root_name) (reservation_of s.now root_name) + set.len s.now.freeing + set.len (waiting_of s)) s.size

-- all limits hold (zfsprops(7))
abbrev pub limits_hold : State → Bool
limits_hold s = quotas_hold s.now && (refquotas_hold s.now && pool_holds s)
