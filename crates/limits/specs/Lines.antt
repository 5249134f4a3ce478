-- What a line of a ledger says.
use Rattle.std.specs.Prelude.{ℕ, ◌+◌, ◌-◌, ◌<◌, ◌^◌, Bool, true, max, unwrap_or, nat_le}
use Rattle.std.specs.Option.{option_map_or}
use Rattle.limits.specs.declared.line.Line.{Line}

-- what a file system uses with all below it (zfsprops(7): used)
abbrev pub used_in : Line → ℕ
used_in l = l.account.here + l.children

-- what is kept for it (zfsprops(7): reservation)
abbrev pub reserved_in : Line → ℕ
reserved_in l = unwrap_or l.account.limits.reservation 0

-- what it adds to what the one above it uses (zfsprops(7): usedbychildren, reservation)
abbrev pub charge_in : Line → ℕ
charge_in l = max (used_in l) (reserved_in l)

-- what of its reservation isn't used (zfsprops(7): reservation)
abbrev pub unspent_in : Line → ℕ
unspent_in l = reserved_in l - used_in l

-- it uses no more than its quota (zfsprops(7): quota)
abbrev pub is_in_quota : Line → Bool
is_in_quota l = option_map_or (nat_le (used_in l)) l.account.limits.quota true

-- its live map has no more than its refquota (zfsprops(7): refquota)
abbrev pub is_in_refquota : Line → Bool
is_in_refquota l = option_map_or (nat_le l.account.referenced) l.account.limits.refquota true

-- it uses so little that sums of such lines can be told (profile)
abbrev pub IsSmall : Line → Type 0
IsSmall l = used_in l < 2 ^ 55
