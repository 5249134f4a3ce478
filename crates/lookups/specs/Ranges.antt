-- A range of the snapshots of a file system.
use Rattle.std.specs.Prelude.{◌≡◌, ◌≤◌, ℕ, Bool, false, not, ◌&&◌, ◌||◌, List, [], ◌∷◌, Option, None, Some, map, drop, is_some, length, nat_lt, nat_le}
use Rattle.std.specs.List.{filter, find, list_any}
use Rattle.std.specs.Option.{option_map, option_map_or}
use Rattle.std.specs.FinMap.{get}
use Rattle.base.specs.declared.refusal.Refusal.{Refusal}
use Rattle.base.specs.declared.refusal.Refusal.TheVariants.{NoDataset, NotAncestor, HasClones}
use Rattle.base.specs.Names.{same_name}
use Rattle.model.specs.World.{FileSystem, Snap, SnapId, Dataset, id_of, snap_named, clones_of}
use Rattle.model.specs.Rule.{first_of}
use Rattle.model.specs.requests.Rollback.{has_clone_outside}
use Rattle.model.specs.requests.WouldFree.{within}
use Rattle.world.specs.Dead.{next_in}
use Rattle.world.specs.Tables.{Datasets, world_of}
use Rattle.datasets.specs.Rows.{Row}
use Rattle.datasets.specs.Clones.{row_in}
use Rattle.limits.specs.Space.{on_path}
use Rattle.lookups.specs.Since.{dead_reach}

-- the creation group of the snapshot of this name within a file system (zfsprops(7): createtxg)
abbrev pub group_at : Datasets → List ℕ → List ℕ → ℕ
group_at t name component = option_map_or (λ u. u.group) (snap_named (world_of t) (within name component)) 0

-- there is no snapshot of this name within a file system (zfs(8))
abbrev pub lacks : Datasets → List ℕ → List ℕ → Bool
lacks t name component = not (is_some (snap_named (world_of t) (within name component)))

-- a snapshot's group is from one to another (On-Disk Specification, chapter 4: ds_creation_txg)
abbrev pub is_in_range : ℕ → ℕ → Snap → Bool
is_in_range first last u = nat_le first u.group && nat_le u.group last

-- the snapshots of a file system from one to another (zfs-destroy(8): filesystem@first%last)
abbrev pub range_ids : Datasets → List ℕ → List ℕ → List ℕ → List SnapId
range_ids t name first last =
    option_map_or (λ f. map id_of (filter (is_in_range (group_at t name first) (group_at t name last)) f.snaps)) (get t.file_systems name) []

-- why there is no answer on such a range, if there is none: one of the two isn't there, or the first is newer, or one has a clone
-- (zfs-destroy(8), -nv; the order is profile)
abbrev pub range_refusal : Datasets → List ℕ → List ℕ → List ℕ → Option Refusal
range_refusal t name first last = first_of (
    (lacks t name first || lacks t name last, NoDataset)
    ∷ (nat_lt (group_at t name last) (group_at t name first), NotAncestor)
    ∷ (has_clone_outside (world_of t) [] (range_ids t name first last), HasClones)
    ∷ []
    )

-- the snapshot has a clone (zfsprops(7): clones)
abbrev pub is_cloned : Datasets → Snap → Bool
is_cloned t u = nat_lt 0 (length (clones_of (world_of t) (id_of u)))

-- it is of a range and has one (zfs-destroy(8))
abbrev pub has_clone_between : Datasets → ℕ → ℕ → Snap → Bool
has_clone_between t first last u = is_in_range first last u && is_cloned t u

-- the group of the first of these snapshots that is newer than this one (On-Disk Specification, chapter 4: ds_next_snap_obj)
abbrev pub group_after : ℕ → List Snap → Option ℕ
group_after last us = option_map (λ u. u.group) (find (λ u. nat_lt last u.group) us)

-- the older ones than this group (On-Disk Specification, chapter 4: ds_creation_txg)
abbrev pub older_than : ℕ → List Snap → List Snap
older_than first = filter (λ u. nat_lt u.group first)

-- and the newer ones (On-Disk Specification, chapter 4: ds_creation_txg)
abbrev pub newer_than : ℕ → List Snap → List Snap
newer_than last = filter (λ u. nat_lt last u.group)

-- the snapshots of a range but its first, and what comes next after the range (zfs-destroy(8): filesystem@first%last)
abbrev pub after_first : Datasets → List ℕ → List ℕ → List ℕ → FileSystem → List Dataset
after_first t name first last f = on_path (drop 1 (range_ids t name first last)) (next_in name (newer_than (group_at t name last) f.snaps))

-- how much their dead lists, which tell what the range would free, add to the count of segments, at most (zfs-destroy(8), -nv; the count is
-- profile)
abbrev pub range_reach : Datasets → List ℕ → List ℕ → List ℕ → ℕ
range_reach t name first last = option_map_or (λ f. dead_reach (world_of t) (after_first t name first last f)) (get t.file_systems name) 0

-- What holds where there is an answer: the file system, and the groups of the two; none of the range has a clone (zfs-destroy(8), -nv)
pub record IsRange (t : Datasets) (name first last : List ℕ) (r : Row) (a b : ℕ) : Type 0 where
  pub allowed : range_refusal t name first last ≡ None
  pub row : r ≡ row_in t.file_systems (name, r.system)
  pub at : get t.file_systems name ≡ Some r.system
  pub from : group_at t name first ≡ a
  pub to : group_at t name last ≡ b
  pub first_at : option_map (λ u. u.group) (find (λ u. same_name u.name first) r.system.snaps) ≡ Some a
  pub order : a ≤ b
  pub uncloned : list_any (has_clone_between t a b) r.system.snaps ≡ false
