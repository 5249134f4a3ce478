-- What a table of datasets keeps beside what contracts see of it: the deadlists; and what its functions do.
use Rattle.std.specs.Prelude.{◌≡◌, ◌<◌, ◌≤◌, ◌++◌, ℕ, List, [], ◌∷◌, Some, IsSome, map}
use Rattle.std.specs.Coded.{Coded, code_by, coded×, coded_ℕ, coded_list}
use Rattle.std.specs.FinMap.{FinMap, get, insert, remove}
use Rattle.std.specs.FinMap as finmap
use Rattle.std.specs.FinSet.{empty, difference}
use Rattle.std.proofs.Common.{refl}
use Rattle.base.specs.declared.number.Dead.{Dead}
use Rattle.base.specs.Names.{name_cmp, root_name}
use Rattle.base.specs.Map.{Block, BlockSet, blocks}
use Rattle.base.specs.Surveys.{IsIn, dead_block}
use Rattle.model.specs.World.{World, FileSystem, Snap, SnapId, Bookmark, Dataset, Live, id_of, same_id, union_of}
use Rattle.model.specs.Codes.{file_system_code}
use Rattle.model.specs.Edits.{with_file_system, with_tags, without_snaps}
use Rattle.model.specs.requests.Destroy.{with_deferred}
use Rattle.world.specs.Sets.{Has}
use Rattle.world.specs.Deadlists.{Lists}
use Rattle.world.specs.Worlds.{FileSystems, HasParent, AreFileSystems}
use Rattle.world.specs.Outcomes.{Promotion, promotion_of, promoted_snaps}
use Rattle.world.specs.Sums.{datasets_from}
use Rattle.world.specs.Dead.{base_of, dead_of}

-- what contracts see of a table: its file systems, and the group that is open (profile)
pub record Datasets : Type 0 where
  pub file_systems : FileSystems
  pub group : ℕ

-- the world of these datasets, with nothing to be freed (profile)
abbrev pub world_of : Datasets → World
world_of t = record { file_systems = t.file_systems; freeing = empty; group = t.group }

-- each list has the blocks of the dataset's deadlist, each once (On-Disk Specification, chapter 4: ds_deadlist_obj)
abbrev pub AreDead : World → List Dataset → List (List Block) → Type 0
AreDead w [] [] = Unit {0}
AreDead w [] (xs ∷ xss) = ⊥
AreDead w (d ∷ ds) [] = ⊥
AreDead w (d ∷ ds) (xs ∷ xss) = Lists xs (dead_of w d) × AreDead w ds xss

-- What a table keeps: `dead` is, by the name of a file system, the deadlists of its snapshots in order, and that of its live map last
-- (profile)
pub record IsTable (t : Datasets) (dead : List ℕ → List (List Block)) : Type 0 where
  pub systems : AreFileSystems t.file_systems t.group
  pub dead_are : (name : List ℕ) (s : FileSystem) → get t.file_systems name ≡ Some s → AreDead (world_of t) (datasets_from name s.snaps) (dead name)

-- what the datasets of one table have and those of another haven't (profile)
abbrev pub lost_between : Datasets → Datasets → BlockSet
lost_between a b = difference (union_of (world_of a)) (union_of (world_of b))

-- one file system replaced (profile)
abbrev pub with_system : Datasets → List ℕ → FileSystem → Datasets
with_system t name s = record t { file_systems = insert t.file_systems name s }

-- a snapshot gone (zfs-destroy(8))
abbrev pub without_snap : Datasets → SnapId → Datasets
without_snap t id = record t { file_systems = (without_snaps (world_of t) (λ u. same_id (id_of u) id)).file_systems }

-- a snapshot that is to go once nothing needs it (zfs-destroy(8), -d)
abbrev pub deferred_snap : Datasets → SnapId → Datasets
deferred_snap t id = record t { file_systems = (with_deferred (world_of t) (λ u. same_id (id_of u) id)).file_systems }

-- a snapshot with other tags (zfs-hold(8), zfs-release(8))
abbrev pub tagged_snap : Datasets → SnapId → List (List ℕ) → Datasets
tagged_snap t id tags = record t { file_systems = (with_tags (world_of t) id tags).file_systems }

-- a file system with other bookmarks, and the same where there is none of that name (zfs-bookmark(8))
abbrev pub with_bookmarks : Datasets → List ℕ → FinMap name_cmp Bookmark → Datasets
with_bookmarks t name bookmarks = record t { file_systems = (with_file_system (world_of t) name (λ f. record f { bookmarks = bookmarks })).file_systems }

-- a file system gone (zfs-destroy(8))
abbrev pub without_system : Datasets → List ℕ → Datasets
without_system t name = record t { file_systems = remove t.file_systems name }

-- the list has what one table's datasets have and another's haven't, each block once (profile)
abbrev pub IsLost : Datasets → Datasets → List Dead → Type 0
IsLost old new ds = Lists (map dead_block ds) (lost_between old new)

-- the file system is there, without snapshots, and is neither the root nor a parent (zfs-destroy(8))
pub record CanRemoveFileSystem (t : Datasets) (name : List ℕ) : Type 0 where
  pub system : FileSystem
  pub there : get t.file_systems name ≡ Some system
  pub bare : system.snaps ≡ []
  pub not_root : ¬ (root_name ≡ name)
  pub childless : (q : List ℕ) (p : HasParent t.file_systems q) → IsSome (get t.file_systems q) → p.parent ≡ name → ⊥

-- a snapshot of the live map may be taken, of a group that has been closed, to which the live map's blocks were born (zfs-snapshot(8))
pub record CanSnap (t : Datasets) (name : List ℕ) (s : Snap) : Type 0 where
  pub system : FileSystem
  pub there : get t.file_systems name ≡ Some system
  pub map_is : s.map ≡ system.live
  pub fresh : (q : List ℕ) (e : FileSystem) (u : Snap) → get t.file_systems q ≡ Some e → IsIn e.snaps u → id_of u ≡ id_of s → ⊥
  pub new_name : (u : Snap) → IsIn system.snaps u → u.name ≡ s.name → ⊥
  pub closed : (b : Block) → Has (blocks system.live) b → b.birth ≤ s.group
  pub above : base_of (world_of t) (Live name) < s.group
  pub opens : s.group < t.group

-- the newest snapshot of a file system (zfs-rollback(8))
pub record IsNewest (t : Datasets) (name : List ℕ) (s : Snap) : Type 0 where
  pub system : FileSystem
  pub there : get t.file_systems name ≡ Some system
  pub older : List Snap
  pub snaps_are : system.snaps ≡ older ++ s ∷ []

-- the promotion clashes in no name (zfs-promote(8))
pub record CanPromote (t : Datasets) (name : List ℕ) (p : Promotion) : Type 0 where
  pub is : promotion_of (world_of t) name ≡ Some p
  pub apart : (a b : Snap) → IsIn (promoted_snaps p) a → IsIn p.clone.snaps b → a.name ≡ b.name → ⊥

-- the code of what contracts see of a table (profile)
abbrev pub datasets_code : Coded Datasets
datasets_code =
    code_by (FileSystems × ℕ) (coded× (finmap.code (coded_list coded_ℕ) file_system_code) coded_ℕ) (λ t. (t.file_systems, t.group))
    (λ p. record { file_systems = p.0; group = p.1 }) (λ _. refl)
