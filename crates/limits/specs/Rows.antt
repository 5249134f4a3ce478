-- What a row of a table tells of a file system's account.
use Rattle.std.specs.Prelude.{◌≡◌, ◌+◌, ◌-◌, ◌∷◌, [], ℕ, Some, map, unwrap_or}
use Rattle.std.specs.FinMap.{get}
use Rattle.std.specs.FinSet.{len}
use Rattle.base.specs.Map.{blocks}
use Rattle.model.specs.World.{blocks_of_all}
use Rattle.model.specs.Sums.{size_without}
use Rattle.world.specs.Tables.{Datasets}
use Rattle.datasets.specs.Dead.{newest_blocks}
use Rattle.datasets.specs.Rows.{Row}
use Rattle.datasets.specs.Clones.{row_in}
use Rattle.limits.specs.declared.account.Account.{Account}

-- a row is that of a file system of this table (profile)
pub record IsRowOf (t : Datasets) (r : Row) : Type 0 where
  pub there : get t.file_systems r.name ≡ Some r.system
  pub is : r ≡ row_in t.file_systems (r.name, r.system)

-- how many blocks a file system has that its origin hasn't (zfsprops(7): usedbydataset, usedbysnapshots)
abbrev pub own_in : Row → ℕ
own_in r =
    size_without (blocks r.system.live) (blocks r.below)
    + size_without (blocks_of_all (map (λ t. t.map) r.system.snaps)) (blocks_of_all (r.system.live ∷ r.below ∷ []))

-- how many blocks its live map has that what stands before it hasn't (zfsprops(7): written)
abbrev pub written_in : Row → ℕ
written_in r = size_without (blocks r.system.live) (newest_blocks (blocks r.below) r.system.snaps)

-- what of its refreservation isn't written (zfsprops(7): usedbyrefreservation)
abbrev pub unwritten_in : Row → ℕ
unwritten_in r = unwrap_or r.system.limits.refreservation 0 - written_in r

-- its account (zfsprops(7): used, referenced)
abbrev pub account_at : Row → Account
account_at r = record { here = own_in r + unwritten_in r; referenced = len (blocks r.system.live); limits = r.system.limits }
