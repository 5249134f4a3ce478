-- A dataset and a snapshot of its lineage.
use Rattle.std.specs.Prelude.{◌≡◌, ◌≤◌, ◌+◌, ℕ, Bool, not, false, ◌||◌, List, [], ◌∷◌, Option, None, Some, is_some, min, ◌-◌, ◌^◌}
use Rattle.std.specs.List.{list_any}
use Rattle.std.specs.Option.{option_map, option_map_or, option_and_then}
use Rattle.std.specs.FinMap.{get}
use Rattle.std.specs.FinSet.{len}
use Rattle.base.specs.declared.refusal.Refusal.{Refusal}
use Rattle.base.specs.declared.refusal.Refusal.TheVariants.{NoDataset, NotAncestor}
use Rattle.base.specs.declared.name.member.Member.{Member}
use Rattle.base.specs.declared.name.target.Target.{Target}
use Rattle.base.specs.declared.name.target.Target.TheVariants.{FileSystem as OfFileSystem, Snapshot as OfSnapshot, Bookmark as OfBookmark}
use Rattle.model.specs.World.{World, Snap, SnapId, Dataset, Live, Snapped, id_of, same_id, snap_named, older_of}
use Rattle.model.specs.Sums.{written_since}
use Rattle.model.specs.Rule.{first_of}
use Rattle.world.specs.Dead.{dead_of}
use Rattle.world.specs.Sums.{dead_by}
use Rattle.world.specs.Tables.{Datasets, world_of}
use Rattle.datasets.specs.Gone.{most_reached}
use Rattle.limits.specs.Space.{IsPath, on_path}

-- the dataset of a name, and none where it isn't there (zfs(8))
abbrev pub dataset_named : Datasets → Target → Option Dataset
dataset_named t (OfFileSystem name) = option_map (λ f. Live name) (get t.file_systems name)
dataset_named t (OfSnapshot m) = option_map (λ u. Snapped (id_of u)) (snap_named (world_of t) m)
dataset_named t (OfBookmark m) = None

-- the snapshot is an older member of the dataset's lineage (On-Disk Specification, chapter 4: ds_prev_snap_obj)
abbrev pub is_before : Datasets → Dataset → SnapId → Bool
is_before t d id = list_any (same_id id) (older_of (world_of t) d)

-- the same of the dataset and the snapshot of these names, and false where one of them isn't there (zfsprops(7): written@snapshot)
abbrev pub is_named_before : Datasets → Target → Member → Bool
is_named_before t target since =
    option_map_or (λ d. option_map_or (λ u. is_before t d (id_of u)) (snap_named (world_of t) since) false) (dataset_named t target) false

-- why there is no answer on such a pair, if there is none (zfsprops(7): written@snapshot; the order is profile)
abbrev pub since_refusal : Datasets → Target → Member → Option Refusal
since_refusal t target since = first_of (
    (not (is_some (dataset_named t target)) || not (is_some (snap_named (world_of t) since)), NoDataset)
    ∷ (not (is_named_before t target since), NotAncestor)
    ∷ []
    )

-- how many blocks the dataset has that the snapshot hasn't, and none where one of them isn't there (zfsprops(7): written@snapshot)
abbrev pub written_named : Datasets → Target → Member → Option ℕ
written_named t target since =
    option_and_then (λ d. option_map (λ u. written_since (world_of t) d (id_of u)) (snap_named (world_of t) since)) (dataset_named t target)

-- The snapshot is of the dataset's lineage; and so many entries that were born by its group have the dead lists of the datasets after it up
-- to this one, and no more than the greatest u64 (On-Disk Specification, chapter 4: ds_deadlist_obj)
pub record IsDeadSince (t : Datasets) (d : Dataset) (id : SnapId) (gone : ℕ) : Type 0 where
  pub ids : List SnapId
  pub path : IsPath (world_of t) id ids d
  pub counted : gone ≡ min (2 ^ 64 - 1) (dead_by (world_of t) id.group (on_path ids d))

-- How much the sums over the dead lists of these datasets add to the count of segments, at most: for each list its one segment, the entries
-- that wait, which are 126 at most, and about the square of the logarithm of the others (On-Disk Specification, chapter 4: ds_deadlist_obj; the
-- count is profile)
abbrev pub dead_reach : World → List Dataset → ℕ
dead_reach w [] = 0
dead_reach w (d ∷ ds) = most_reached (len (dead_of w d)) + dead_reach w ds

-- The snapshot is of the dataset's lineage; and the count of segments rose by no more than the dead lists of the datasets after it up to this
-- one add, each once (On-Disk Specification, chapter 4: ds_deadlist_obj; the count is profile)
pub record HasReached (t : Datasets) (d : Dataset) (id : SnapId) (reached : ℕ) : Type 0 where
  pub ids : List SnapId
  pub path : IsPath (world_of t) id ids d
  pub few : reached ≤ dead_reach (world_of t) (on_path ids d)

-- the same of the dataset and the snapshot of these names (zfsprops(7): written@snapshot; the count is profile)
pub record HasReachedNamed (t : Datasets) (target : Target) (since : Member) (reached : ℕ) : Type 0 where
  pub dataset : Dataset
  pub dataset_is : dataset_named t target ≡ Some dataset
  pub snapshot : Snap
  pub snapshot_is : snap_named (world_of t) since ≡ Some snapshot
  pub lists : HasReached t dataset (id_of snapshot) reached
