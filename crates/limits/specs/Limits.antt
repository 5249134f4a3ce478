-- Limits as facts of each file system, and worlds in which no file system uses or refers to more than in an earlier one.
use Rattle.std.specs.Prelude.{◌≡◌, ℕ, ◌≤◌, ◌⊎◌, List, [], Option, Some, None}
use Rattle.std.specs.FinMap.{get}
use Rattle.base.specs.Surveys.{IsIn}
use Rattle.model.specs.World.{World, FileSystem, Snap, Live, id_of, map_of_snap, no_limits}
use Rattle.model.specs.Hierarchy.{FileSystems}
use Rattle.model.specs.State.{State}
use Rattle.model.specs.Sums.{used_of, referenced_of}

-- a limit, where there is one, is at least a size (zfsprops(7): quota, refquota)
abbrev pub IsWithin : ℕ → Option ℕ → Type 0
IsWithin n None = Unit {0}
IsWithin n (Some limit) = n ≤ limit

-- zfsprops(7), quota
abbrev pub IsQuotaMet : World → List ℕ → Type 0
IsQuotaMet w name = (s : FileSystem) → get w.file_systems name ≡ Some s → IsWithin (used_of w name) s.limits.quota

-- zfsprops(7), refquota
abbrev pub IsRefquotaMet : World → List ℕ → Type 0
IsRefquotaMet w name = (s : FileSystem) → get w.file_systems name ≡ Some s → IsWithin (referenced_of w (Live name)) s.limits.refquota

-- every quota and refquota holds (zfsprops(7): quota, refquota)
pub record AreQuotasMet (w : World) : Type 0 where
  pub quotas : (name : List ℕ) → IsQuotaMet w name
  pub refquotas : (name : List ℕ) → IsRefquotaMet w name

-- a later limit is an earlier one, or none (zfsprops(7))
abbrev pub IsKeptOrNone : Option ℕ → Option ℕ → Type 0
IsKeptOrNone before after = (after ≡ before) ⊎ (after ≡ None)

-- A file system as an earlier one that may have lost snapshots and limits. Tags, marks and bookmarks may change (zfs-destroy(8),
-- zfs-hold(8), zfs-bookmark(8), zfs-set(8))
pub record IsShrunk (s t : FileSystem) : Type 0 where
  pub live : t.live ≡ s.live
  pub origin : t.origin ≡ s.origin
  pub snaps : (u : Snap) → IsIn t.snaps u → (v : Snap) × IsIn s.snaps v × (id_of u ≡ id_of v) × (u.map ≡ v.map)
  pub quota : IsKeptOrNone s.limits.quota t.limits.quota
  pub refquota : IsKeptOrNone s.limits.refquota t.limits.refquota
  pub reservation : IsKeptOrNone s.limits.reservation t.limits.reservation
  pub refreservation : IsKeptOrNone s.limits.refreservation t.limits.refreservation

-- a file system that is made, empty or as a clone (zfs-create(8), zfs-clone(8))
pub record IsMade (old : World) (t : FileSystem) : Type 0 where
  pub live : t.live ≡ map_of_snap old t.origin
  pub snaps : t.snaps ≡ []
  pub limits : t.limits ≡ no_limits

-- each file system is one that may have lost snapshots and limits, or is new; others may be gone (the page of each subcommand)
abbrev pub AreShrunk : World → World → Type 0
AreShrunk old new =
    (name : List ℕ) (t : FileSystem) → get new.file_systems name ≡ Some t
    → ((s : FileSystem) × (get old.file_systems name ≡ Some s) × IsShrunk s t) ⊎ ((get old.file_systems name ≡ None) × IsMade old t)

-- Every quota and refquota holds of the present world, and of the one to which the pool may return (zfsprops(7): quota, refquota;
-- the return is profile)
pub record HasLimits (s : State) : Type 0 where
  pub now : AreQuotasMet s.now
  pub last : AreQuotasMet s.last

-- no file system has a limit (zfsprops(7): quota, refquota, reservation, refreservation)
abbrev pub IsUnlimited : FileSystems → Type 0
IsUnlimited ss = (name : List ℕ) (s : FileSystem) → get ss name ≡ Some s → s.limits ≡ no_limits
