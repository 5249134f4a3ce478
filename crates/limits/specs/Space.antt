-- What file systems have of their own, and the datasets whose deadlists give the space of snapshots and of ranges of them.
use Rattle.std.specs.Prelude.{◌≡◌, ℕ, ◌+◌, Bool, cond, List, [], ◌∷◌, Some, map}
use Rattle.std.specs.List.{sum}
use Rattle.std.specs.Option.{option_map_or}
use Rattle.std.specs.FinMap.{entries}
use Rattle.std.specs.FinSet as set
use Rattle.base.specs.Map.{Map, BlockSet, blocks}
use Rattle.base.specs.Surveys.{IsIn}
pub use Rattle.model.specs.Hierarchy.{is_in_family}
use Rattle.model.specs.World.{World, FileSystem, Snap, SnapId, Dataset, Live, Snapped, id_of, map_of, previous_of, file_system_at}
use Rattle.model.specs.Sums.{used_by_dataset, used_by_snapshots}
use Rattle.world.specs.Dead.{dead_of, IsThere, next_in}

-- what a file system has that its origin hasn't (zfsprops(7): usedbydataset, usedbysnapshots)
abbrev pub own_of : World → FileSystem → ℕ
own_of w s = used_by_dataset w s + used_by_snapshots w s

-- what those file systems have of their own whose names pass a test (zfsprops(7): used, usedbychildren)
abbrev pub own_where : World → (List ℕ → Bool) → ℕ
own_where w p = sum (map (λ e. cond (p e.0) (own_of w e.1) 0) (entries w.file_systems))

-- the snapshots between a snapshot and a dataset of whose lineage it is, the oldest first (On-Disk Specification, chapter 4:
-- ds_prev_snap_obj)
abbrev pub IsPath : World → SnapId → List SnapId → Dataset → Type 0
IsPath w id [] d = IsThere w d × (previous_of w d ≡ Some id)
IsPath w id (j ∷ js) d = IsThere w (Snapped j) × (previous_of w (Snapped j) ≡ Some id) × IsPath w j js d

-- these snapshots and the dataset (On-Disk Specification, chapter 4: ds_prev_snap_obj)
abbrev pub on_path : List SnapId → Dataset → List Dataset
on_path [] d = d ∷ []
on_path (j ∷ js) d = Snapped j ∷ on_path js d

-- the datasets that come next after a snapshot: in its file system, and its clones' oldest (On-Disk Specification, chapter 4:
-- ds_next_snap_obj, ds_next_clones_obj)
pub record AreNext (w : World) (id : SnapId) (ds : List Dataset) : Type 0 where
  pub right : (d : Dataset) → IsIn ds d → IsThere w d × (previous_of w d ≡ Some id)
  pub complete : (d : Dataset) → IsThere w d → previous_of w d ≡ Some id → IsIn ds d

-- the oldest dataset of a file system: its oldest snapshot, and its live map where it has none (On-Disk Specification, chapter 4:
-- ds_next_clones_obj)
abbrev pub oldest_in : World → List ℕ → Dataset
oldest_in w name = option_map_or (λ s. next_in name s.snaps) (file_system_at w name) (Live name)

-- of a set, what all their deadlists have (zfsprops(7), used, of a snapshot)
abbrev pub dead_in_each : World → BlockSet → List Dataset → BlockSet
dead_in_each w s [] = s
dead_in_each w s (d ∷ ds) = set.intersection (dead_of w d) (dead_in_each w s ds)

-- the datasets of a range of a file system's snapshots, and the one that comes next (zfs-destroy(8), first%last)
abbrev pub with_next : List ℕ → List Snap → List Snap → List Dataset
with_next name [] newer = next_in name newer ∷ []
with_next name (t ∷ range) newer = Snapped (id_of t) ∷ with_next name range newer

-- the group of the newest of some snapshots, and this one where there are none (On-Disk Specification, chapter 4: ds_prev_snap_txg)
abbrev pub newest_group : ℕ → List Snap → ℕ
newest_group g [] = g
newest_group g (t ∷ ts) = newest_group t.group ts

-- the map of what comes next after the snapshots before these (On-Disk Specification, chapter 4: ds_next_snap_obj)
abbrev pub next_map : FileSystem → List Snap → Map
next_map s [] = s.live
next_map s (t ∷ ts) = t.map

-- the blocks of the newest of some snapshots, and these where there are none (On-Disk Specification, chapter 4: ds_prev_snap_obj)
abbrev pub newest_blocks : BlockSet → List Snap → BlockSet
newest_blocks s [] = s
newest_blocks s (t ∷ ts) = newest_blocks (blocks t.map) ts

-- of a set, what none of these datasets has (zfsprops(7), used, of a snapshot)
abbrev pub without_each : World → BlockSet → List Dataset → BlockSet
without_each w s [] = s
without_each w s (d ∷ ds) = without_each w (set.difference s (blocks (map_of w d))) ds
