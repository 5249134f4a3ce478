-- File systems under the names that a rename gives them, and why it is refused.
use Rattle.std.specs.Prelude.{◌≡◌, ℕ, false, true, List, Option, Some, ◌++◌, length, drop, map, nat_lt, IsTrue}
use Rattle.std.specs.List.{flat_map}
use Rattle.std.specs.Arc.{arc_value}
use Rattle.std.specs.declared.sync.Arc.{Arc}
use Rattle.std.specs.declared.alloc.Global.{Global}
use Rattle.std.specs.FinMap.{get, is_sorted, from_sorted, from_entries}
use Rattle.base.specs.Names.{name_cmp, name_limit}
use Rattle.base.specs.Surveys.{IsIn}
use Rattle.base.specs.declared.refusal.Refusal.{Refusal}
use Rattle.model.specs.World.{FileSystem}
use Rattle.file_system.specs.Deferred.{edited_of, with_snap_name}
use Rattle.model.specs.Hierarchy.{is_in_family}
use Rattle.model.specs.Rule.{first_of}
use Rattle.model.specs.requests.Rename.{renamed, with_renamed, renaming_row}
use Rattle.world.specs.Tables.{Datasets, world_of}
use Rattle.file_system.specs.Rows.{FileSystems, Entry, Row, entry_in, with_name}
use Rattle.datasets.specs.CloneNames.{CloneSet, IsListed}

-- the datasets after the rename of a file system, and of all below it (zfs-rename(8))
abbrev pub with_names : Datasets → List ℕ → List ℕ → Datasets
with_names t from to = record t { file_systems = (with_renamed (world_of t) from to).file_systems }

-- why it is refused, if it is, whatever the limits (zfs-rename(8))
abbrev pub rename_refusal : Datasets → List ℕ → List ℕ → Option Refusal
rename_refusal t from to = first_of (renaming_row (world_of t) from to)

-- no file system has the new name or one below it, neither name is of the other's family, and no name becomes too long (zfs-rename(8))
pub record CanMove (m : FileSystems) (from to : List ℕ) : Type 0 where
  pub new_apart : is_in_family to from ≡ false
  pub old_apart : is_in_family from to ≡ false
  pub free : (n : List ℕ) (f : FileSystem) → get m n ≡ Some f → is_in_family to n ≡ false
  pub short : (n : List ℕ) (f : FileSystem) → get m n ≡ Some f → is_in_family from n ≡ true → nat_lt name_limit (length (to ++ drop (length from) n)) ≡ false

-- the row of an old one under its new name (zfs-rename(8))
abbrev pub moved_row : List ℕ → List ℕ → Row → Row
moved_row from to r = with_name r (renamed from to r.name)

-- the new rows are the old ones under their new names, in byte order of these, with the clones among them (zfs-rename(8))
pub record AreMoved (from to : List ℕ) (old new : List (Arc Row Global)) (clones : CloneSet) : Type 0 where
  pub sorted : IsTrue (is_sorted name_cmp (map entry_in new))
  pub named : from_sorted {R = name_cmp} (map entry_in new) ≡ from_entries (map (λ (e : Entry). (renamed from to e.0, e.1)) (map entry_in old))
  pub each : (r : Row) → IsIn (map arc_value new) r → (o : Row) × IsIn (map arc_value old) o × (r ≡ moved_row from to o)
  pub all : (o : Row) → IsIn (map arc_value old) o → IsIn (map arc_value new) (moved_row from to o)
  pub counted : length (flat_map (λ e. e.1.snaps) (map entry_in new)) ≡ length (flat_map (λ e. e.1.snaps) (map entry_in old))
  pub listed : IsListed (from_sorted {R = name_cmp} (map entry_in new)) clones

-- the snapshot of this group of this file system under another name (zfs-rename(8))
abbrev pub with_snap_named : Datasets → List ℕ → ℕ → List ℕ → Datasets
with_snap_named t name group to = record t { file_systems = edited_of (with_snap_name to) t.file_systems name group }
