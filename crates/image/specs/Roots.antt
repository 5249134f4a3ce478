-- The roots of datasets.
use Rattle.std.specs.Prelude.{◌≡◌, ℕ, List, ◌∷◌, Option, None, Some, map}
use Rattle.std.specs.List.{flat_map}
use Rattle.std.specs.FinMap.{get, entries}
use Rattle.base.specs.Map.{Map, Block, contents}
use Rattle.base.specs.Surveys.{IsIn}
use Rattle.model.specs.World.{World, FileSystem, Snap}
use Rattle.model.specs.Hierarchy.{FileSystems}
use Rattle.world.specs.Worlds.{IsWorld}
use Rattle.image.specs.HasBlocks.{root_of}
use Rattle.image.specs.ImageBlocks.{maybe_block}
use Rattle.image.specs.ImageWalk.{walk}
use Rattle.image.specs.Stored.{AllWalk}
use Rattle.image.specs.declared.roots.DatasetRoot.{DatasetRoot}

-- a dataset's root: the name of its file system, that of a snapshot within it, or none for the live map, and its topmost block, or none where
-- it is empty (On-Disk Specification, chapter 3)
pub record RootAt : Type 0 where
  pub file_system : List ℕ
  pub snapshot : Option (List ℕ)
  pub root : Option Block

-- what contracts see of one that is handed out (profile)
abbrev pub shown_root : DatasetRoot → RootAt
shown_root r = record { file_system = r.file_system; snapshot = r.snapshot; root = maybe_block r.root }

-- those of a file system's snapshots (On-Disk Specification, chapter 4)
abbrev pub snapshot_roots : List ℕ × FileSystem → List RootAt
snapshot_roots e = map (λ t. record { file_system = e.0; snapshot = Some t.name; root = root_of t.map }) e.1.snaps

-- that of its live map, and then those (On-Disk Specification, chapter 4)
abbrev pub own_roots : List ℕ × FileSystem → List RootAt
own_roots e = record { file_system = e.0; snapshot = None; root = root_of e.1.live } ∷ snapshot_roots e

-- those of all file systems, in byte order of their names (zfs-list(8))
abbrev pub roots_in : FileSystems → List RootAt
roots_in ss = flat_map own_roots (entries ss)

-- the map of a file system's dataset: of its snapshot of this name, or its live map where there is no name (On-Disk Specification, chapter 4)
abbrev pub IsMapNamed : FileSystem → Option (List ℕ) → Map → Type 0
IsMapNamed f None m = m ≡ f.live
IsMapNamed f (Some name) m = (t : Snap) × IsIn f.snaps t × (t.name ≡ name) × (m ≡ t.map)

-- the dataset of a root has this map (On-Disk Specification, chapter 4)
pub record IsRootOf (ss : FileSystems) (r : RootAt) (m : Map) : Type 0 where
  pub system : FileSystem
  pub there : get ss r.file_system ≡ Some system
  pub map : IsMapNamed system r.snapshot m

-- where each dataset of a world can be walked, the walk from each root that is told of the world is the contents of that root's dataset
abbrev pub RootsAreWalked : Type 0
RootsAreWalked =
    (image : ℕ → List ℕ) (n size : ℕ) (w : World) (r : RootAt) → IsWorld size w → AllWalk image n w → IsIn (roots_in w.file_systems) r
    → (m : Map) × IsRootOf w.file_systems r m × (walk image n r.root ≡ Some (contents m))
