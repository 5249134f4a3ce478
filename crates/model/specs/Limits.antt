-- One limit of a file system.
use Rattle.std.specs.Prelude.{ℕ, Option}
use Rattle.model.specs.declared.limits.Limit.{Limit}
use Rattle.model.specs.declared.limits.Limit.TheVariants.{Quota, RefQuota, Reservation, RefReservation}
use Rattle.model.specs.World.{FileSystem, Limits}

-- the limit's amount in blocks, or none (zfsprops(7): quota, refquota, reservation, refreservation)
abbrev pub limit_of : Limits → Limit → Option ℕ
limit_of limits Quota = limits.quota
limit_of limits RefQuota = limits.refquota
limit_of limits Reservation = limits.reservation
limit_of limits RefReservation = limits.refreservation

-- the limits with this one set to an amount, or to none (zfsprops(7): quota, refquota, reservation, refreservation)
abbrev pub with_limit : Limits → Limit → Option ℕ → Limits
with_limit limits Quota amount = record limits { quota = amount }
with_limit limits RefQuota amount = record limits { refquota = amount }
with_limit limits Reservation amount = record limits { reservation = amount }
with_limit limits RefReservation amount = record limits { refreservation = amount }

-- the file system with this limit set to an amount, or to none (zfsprops(7): quota, refquota, reservation, refreservation)
abbrev pub limited : FileSystem → Limit → Option ℕ → FileSystem
limited f limit amount = record f { limits = with_limit f.limits limit amount }
