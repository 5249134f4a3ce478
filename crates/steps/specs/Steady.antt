-- What holds of a pool's state between two steps.
use Rattle.std.specs.Prelude.{◌≡◌, Option, Some, None, true}
use Rattle.std.specs.Option.{option_and_then}
use Rattle.std.specs.FinMap.{get}
use Rattle.base.specs.Map.{Map}
use Rattle.base.specs.declared.name.member.Member.{Member}
use Rattle.base.specs.declared.name.target.Target.{Target}
use Rattle.base.specs.declared.name.target.Target.TheVariants.{FileSystem as OfFileSystem, Snapshot as OfSnapshot, Bookmark as OfBookmark}
use Rattle.model.specs.World.{Bookmark, Dataset, map_of}
use Rattle.model.specs.State.{State}
use Rattle.model.specs.Targets.{dataset_of, has_dataset}
pub use Rattle.model.specs.Hierarchy.{snap_in}
use Rattle.model.specs.Hierarchy.{FileSystems}
use Rattle.world.specs.Worlds.{IsPoolState, IsSwept}
use Rattle.limits.specs.Limits.{HasLimits}

-- The facts of its worlds and views, with nothing to sweep, and with every quota and refquota met (zfsprops(7): quota, refquota; the rest
-- is profile)
pub record IsSteady (s : State) : Type 0 where
  pub good : IsPoolState s
  pub swept : IsSwept s
  pub limits : HasLimits s

-- a bookmark by its name, among file systems (zfs-bookmark(8))
abbrev pub bookmark_in : FileSystems → Member → Option Bookmark
bookmark_in ss m = option_and_then (λ f. get f.bookmarks m.component) (get ss m.file_system)

-- nothing has the name (zfs-get(8))
abbrev pub IsAbsent : FileSystems → Target → Type 0
IsAbsent ss (OfFileSystem name) = get ss name ≡ None
IsAbsent ss (OfSnapshot m) = snap_in ss m ≡ None
IsAbsent ss (OfBookmark m) = bookmark_in ss m ≡ None

-- no dataset has the name; a bookmark is none (zfs(8))
abbrev pub HasNoDataset : FileSystems → Target → Type 0
HasNoDataset ss (OfFileSystem name) = get ss name ≡ None
HasNoDataset ss (OfSnapshot m) = snap_in ss m ≡ None
HasNoDataset ss (OfBookmark m) = Unit {0}

-- the dataset of a name that is there, and its map (zfs(8))
pub record IsNamed (s : State) (target : Target) (m : Map) : Type 0 where
  pub dataset : Dataset
  pub there : has_dataset s target ≡ true
  pub is : dataset_of s target ≡ Some dataset
  pub map_is : map_of s.now dataset ≡ m
