-- File systems by name, and their hierarchy (zfs(8)).
use Rattle.std.specs.Prelude.{◌≡◌, ◌⊎◌, ◌≤◌, ◌||◌, ℕ, Bool, false, List, Option, IsSome, IsTrue}
use Rattle.std.specs.List.{find}
use Rattle.std.specs.Option.{option_map_or, option_and_then}
use Rattle.std.specs.FinMap.{FinMap, get, contains_key, len}
use Rattle.base.specs.Names.{name_cmp, same_name, parent_of, is_descendant, root_name}
use Rattle.base.specs.declared.name.member.Member.{Member}
use Rattle.model.specs.World.{FileSystem, Snap}

-- a world's file systems, by their names (On-Disk Specification, chapter 4)
abbrev pub FileSystems : Type 0
FileSystems = FinMap name_cmp FileSystem

-- the second name is the first or a descendant's (zfs(8))
abbrev pub is_in_family : List ℕ → List ℕ → Bool
is_in_family ancestor name = same_name name ancestor || is_descendant ancestor name

-- the most file systems of a pool, the root among them (profile)
abbrev pub file_system_limit : ℕ
file_system_limit = 1024

-- the file system that one of this name is a child of is there (zfs-create(8), without -p)
abbrev pub has_parent : FileSystems → List ℕ → Bool
has_parent m name = option_map_or (contains_key m) (parent_of name) false

-- the root is there, and so is the parent of each other file system; there are no more than may be (zfs(8); the root's name and the
-- limit are profile)
pub record IsHierarchy (m : FileSystems) : Type 0 where
  pub root : IsSome (get m root_name)
  pub parents : (name : List ℕ) → IsSome (get m name) → (name ≡ root_name) ⊎ IsTrue (has_parent m name)
  pub few : len m ≤ file_system_limit

-- a snapshot by its name, among file systems (zfs(8))
abbrev pub snap_in : FileSystems → Member → Option Snap
snap_in ss m = option_and_then (λ f. find (λ t. same_name t.name m.component) f.snaps) (get ss m.file_system)
