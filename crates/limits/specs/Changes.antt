-- Worlds that differ in what one file system has and keeps of its own, and the lines of a ledger that differ with it.
use Rattle.std.specs.Prelude.{◌≡◌, ◌⊎◌, ℕ, ◌+◌, ◌-◌, ◌<◌, ◌≤◌, ◌^◌, List, [], ◌∷◌, Some, None, is_some, true, false, length, map, slice_index_or}
use Rattle.std.specs.Option.{option_map_or}
use Rattle.std.specs.FinMap.{get, keys}
use Rattle.base.specs.declared.refusal.Refusal.{Refusal}
use Rattle.base.specs.declared.refusal.Refusal.TheVariants.{Quota, RefQuota}
use Rattle.base.specs.Names.{root_name, parent_of}
use Rattle.model.specs.World.{World, FileSystem, Live, no_limits}
use Rattle.model.specs.Hierarchy.{IsHierarchy}
use Rattle.model.specs.Sums.{used_here, referenced_of}
use Rattle.model.specs.Fits.{quotas_hold, refquotas_hold}
use Rattle.limits.specs.Levels.{IsUnder, AreSameBut, charge_of}
use Rattle.limits.specs.declared.line.Line.{Line}
use Rattle.limits.specs.Lines.{used_in, reserved_in, charge_in}
use Rattle.limits.specs.Ledgers.{line_in, ledger_of}
use Rattle.limits.specs.Places.{IsParentAt}

-- A world with the file systems and limits of an earlier one, in which a single file system has and keeps so much of its own and refers to
-- so much (zfsprops(7): used, referenced)
pub record IsChanged (old new : World) (name : List ℕ) (here referenced : ℕ) : Type 0 where
  pub hierarchy : IsHierarchy new.file_systems
  pub names : keys new.file_systems ≡ keys old.file_systems
  pub limits : (other : List ℕ) (f g : FileSystem) → get old.file_systems other ≡ Some f → get new.file_systems other ≡ Some g → g.limits ≡ f.limits
  pub others : AreSameBut old new (name ∷ [])
  pub others_referenced : (other : List ℕ) → ¬ (other ≡ name) → referenced_of new (Live other) ≡ referenced_of old (Live other)
  pub is_here : used_here new name ≡ here
  pub is_referenced : referenced_of new (Live name) ≡ referenced

-- Worlds that differ at one name alone: the file system of that name has, keeps, refers to or may use another amount, or one of them has none
-- (zfs-create(8), zfs-destroy(8), zfsprops(7): used, referenced)
pub record IsRecounted (old new : World) (name : List ℕ) : Type 0 where
  pub hierarchy : IsHierarchy new.file_systems
  pub names : (other : List ℕ) → ¬ (other ≡ name) → is_some (get new.file_systems other) ≡ is_some (get old.file_systems other)
  pub limits : (other : List ℕ) (f g : FileSystem) → ¬ (other ≡ name) → get old.file_systems other ≡ Some f → get new.file_systems other ≡ Some g → g.limits ≡ f.limits
  pub others : AreSameBut old new (name ∷ [])
  pub referenced : (other : List ℕ) → ¬ (other ≡ name) → referenced_of new (Live other) ≡ referenced_of old (Live other)

-- the line of a file system that has, keeps and may keep nothing, nor have its children (profile)
abbrev pub bare_line : Line
bare_line = record { account = record { here = 0; referenced = 0; limits = no_limits }; children = 0 }

-- the line that a world has under a name, where it has a file system there (profile)
abbrev pub line_under : World → List ℕ → Line
line_under w name = option_map_or (λ f. line_in w (name, f)) (get w.file_systems name) bare_line

-- those under these names (profile)
abbrev pub lines_under : World → List (List ℕ) → List Line
lines_under w names = map (line_under w) names

-- a line whose file system has and keeps so much of its own and refers to so much (zfsprops(7): used, referenced)
abbrev pub amended : Line → ℕ → ℕ → Line
amended l here referenced = record l { account = record { here = here; referenced = referenced; limits = l.account.limits } }

-- a line, one of whose children is charged another amount than before (zfsprops(7): usedbychildren)
abbrev pub recharged : Line → ℕ → ℕ → Line
recharged l before after = record l { children = l.children - before + after }

-- the line at a place, with so much for what its children use (zfsprops(7): usedbychildren)
abbrev pub line_with : List Line → ℕ → ℕ → Line
line_with lines place children = record (slice_index_or lines place bare_line) { children = children }

-- what a file system has and keeps of its own, and what is kept for it, are so little that sums over a pool's can be told (profile)
pub record IsModest (l : Line) : Type 0 where
  pub here : l.account.here < 2 ^ 42
  pub reserved : reserved_in l ≤ 2 ^ 40

-- a line has the limits of an earlier one, and doesn't use much more (profile)
pub record IsNear (before after : Line) : Type 0 where
  pub limits : after.account.limits ≡ before.account.limits
  pub used : used_in after ≤ used_in before + 2 ^ 42

-- where the line at a place becomes another, the next that changes is the parent's: its place, and what it becomes (zfsprops(7):
-- usedbychildren)
pub record IsNext (names : List (List ℕ)) (lines : List Line) (place : ℕ) (line : Line) (next : ℕ × Line) : Type 0 where
  pub parent : IsParentAt names place next.0
  pub is : next.1 ≡ recharged (slice_index_or lines next.0 next.1) (charge_in (slice_index_or lines place line)) (charge_in line)

-- or none does: what is charged stays the same, or there is no parent (zfsprops(7): usedbychildren)
abbrev pub IsTop : List (List ℕ) → List Line → ℕ → Line → Type 0
IsTop names lines place line =
    (charge_in line ≡ charge_in (slice_index_or lines place line)) ⊎ (parent_of (slice_index_or names place []) ≡ None)

-- A line can be written at a place, and what is charged can then be brought up to date above it: what a line on the way up is charged is among
-- what the children of the one above use, and all is so little that sums can be told (profile)
pub record CanWalkUp (names : List (List ℕ)) (lines : List Line) (place : ℕ) (line : Line) : Type 0 where
  pub long : length lines ≡ length names
  pub within : place < length lines
  pub modest : IsModest line
  pub used : used_in line ≤ used_in (slice_index_or lines place line) + 2 ^ 43
  pub charged : charge_in line ≤ charge_in (slice_index_or lines place line) + 2 ^ 43
  pub low : (j : ℕ) (d : Line) → j < length lines → IsUnder (slice_index_or names j []) (slice_index_or names place []) → used_in (slice_index_or lines j d) ≤ 2 ^ 53
  pub counted : (j p : ℕ) (d : Line) → j < length lines → IsUnder (slice_index_or names j []) (slice_index_or names place []) → IsParentAt names j p
      → charge_in (slice_index_or lines j d) ≤ (slice_index_or lines p d).children

-- With this line at a place the lines are the ledger of a world, but that above it what children use has that line's charge from before
-- (zfsprops(7): usedbychildren)
pub record IsBehind (w : World) (names : List (List ℕ)) (lines : List Line) (place : ℕ) (line : Line) : Type 0 where
  pub hierarchy : IsHierarchy w.file_systems
  pub named : keys w.file_systems ≡ names
  pub is : line ≡ slice_index_or (ledger_of w) place line
  pub settled : (j : ℕ) (d : Line) → j < length names → IsUnder (slice_index_or names j []) (slice_index_or names place []) ⊎ (slice_index_or lines j d ≡ slice_index_or (ledger_of w) j d)
  pub above : (j p : ℕ) (d : Line) → j < length names → IsUnder (slice_index_or names j []) (slice_index_or names place []) → IsParentAt names j p
      → slice_index_or lines p d ≡ recharged (slice_index_or (ledger_of w) p d) (charge_in (slice_index_or (ledger_of w) j d)) (charge_in (slice_index_or lines j d))

-- lines are the ledger of a world whose file systems have these names (zfs(8))
pub record IsLedgerOf (w : World) (names : List (List ℕ)) (lines : List Line) : Type 0 where
  pub hierarchy : IsHierarchy w.file_systems
  pub named : keys w.file_systems ≡ names
  pub own : lines ≡ ledger_of w

-- The line at a place on the way up from the file system whose account changes, as it is in every world with the change (zfsprops(7):
-- usedbychildren)
pub record IsOnWay (old : World) (name : List ℕ) (here referenced : ℕ) (place : ℕ) (line : Line) : Type 0 where
  pub within : place < length (keys old.file_systems)
  pub under : IsUnder (slice_index_or (keys old.file_systems) place []) name
  pub near : IsNear (slice_index_or (ledger_of old) place line) line
  pub is : (new : World) → IsChanged old new name here referenced → line ≡ slice_index_or (ledger_of new) place line

-- every quota and refquota holds, and the root is charged so much (zfsprops(7): quota, refquota, reservation)
pub record IsWithinQuotas (w : World) (charge : ℕ) : Type 0 where
  pub quotas : quotas_hold w ≡ true
  pub refquotas : refquotas_hold w ≡ true
  pub root : charge ≡ charge_of w root_name

-- a quota is broken, or none but a refquota (zfsprops(7): quota, refquota; the order is profile)
abbrev pub IsOverQuota : World → Refusal → Type 0
IsOverQuota w e =
    ((e ≡ Quota) × (quotas_hold w ≡ false)) ⊎ ((e ≡ RefQuota) × (quotas_hold w ≡ true) × (refquotas_hold w ≡ false))
