-- Which properties are of space, by what is told of them.
use Rattle.std.specs.Prelude.{Bool, true, false}
use Rattle.model.specs.declared.limits.Limit.{Limit}
use Rattle.model.specs.declared.limits.Limit.TheVariants.{Quota as QuotaIs, RefQuota as RefQuotaIs, Reservation as ReservationIs, RefReservation as RefReservationIs}
use Rattle.model.specs.declared.request.Property.{Property}
use Rattle.model.specs.declared.request.Property.TheVariants.{Available, UsedByDataset, UsedBySnapshots, UsedByChildren, UsedByRefReservation, Quota, RefQuota, Reservation, RefReservation}

-- a property of space that file systems alone have (zfsprops(7))
abbrev pub is_of_live : Property → Bool
is_of_live Available = true
is_of_live UsedByDataset = true
is_of_live UsedBySnapshots = true
is_of_live UsedByChildren = true
is_of_live UsedByRefReservation = true
is_of_live Quota = true
is_of_live RefQuota = true
is_of_live Reservation = true
is_of_live RefReservation = true
is_of_live _ = false

-- the property that tells a limit (zfsprops(7): quota, refquota, reservation, refreservation)
abbrev pub property_of : Limit → Property
property_of QuotaIs = Quota
property_of RefQuotaIs = RefQuota
property_of ReservationIs = Reservation
property_of RefReservationIs = RefReservation
