-- The clones among file systems, by their origins.
use Rattle.std.specs.Prelude.{◌≡◌, ◌<◌, ◌≤◌, ℕ, List, Option, Some, None, IsTrue, map, length, false, slice_index_or}
use Rattle.std.specs.declared.cmp.Ordering.{Ordering}
use Rattle.std.specs.declared.cmp.Ordering.TheVariants.{Less, Greater}
use Rattle.std.specs.Ordering.{nat_cmp, ordering_then}
use Rattle.std.specs.Arc.{arc_value}
use Rattle.std.specs.Coded.{Coded, coded×, coded_ℕ, coded_list}
use Rattle.std.specs.Option.{option_map_or}
use Rattle.std.specs.FinMap.{FinMap, entries, contains_key, is_sorted}
use Rattle.std.specs.FinMap as finmap
use Rattle.std.specs.FinSet as set
use Rattle.std.specs.List.{filter}
use Rattle.base.specs.Names.{name_cmp}
use Rattle.model.specs.Codes.{id_code}
use Rattle.model.specs.Ids.{snap_id}
use Rattle.model.specs.World.{SnapId, same_id}
use Rattle.datasets.specs.declared.clones.CloneName.{CloneName}
use Rattle.datasets.specs.Clones.{origin_at}
use Rattle.file_system.specs.Rows.{FileSystems}

-- the origin of a clone, and its name (zfsprops(7): origin)
abbrev pub CloneKey : Type 0
CloneKey = SnapId × List ℕ

-- snapshots by their groups, and then by their guids (profile)
abbrev pub id_cmp : SnapId → SnapId → Ordering
id_cmp a b = ordering_then (nat_cmp a.group b.group) (nat_cmp a.guid b.guid)

-- clones by their origins, and then by their names (profile)
abbrev pub key_cmp : CloneKey → CloneKey → Ordering
key_cmp a b = ordering_then (id_cmp a.0 b.0) (name_cmp a.1 b.1)

-- the clone's name (zfs-clone(8))
abbrev pub name_of : CloneName → List ℕ
name_of c = arc_value c.name

-- its origin and its name (zfsprops(7): origin)
abbrev pub key_of : CloneName → CloneKey
key_of c = (snap_id c.origin, name_of c)

-- clones with their origins, as keys with nothing at them (zfsprops(7): clones)
abbrev pub CloneSet : Type 0
CloneSet = FinMap key_cmp (Unit {0})

-- an entry of such a set (profile)
abbrev pub CloneEntry : Type 0
CloneEntry = CloneKey × Unit {0}

-- that of a clone (profile)
abbrev pub key_in : CloneName → CloneEntry
key_in c = (key_of c, tt)

-- the set of these (zfsprops(7): clones)
abbrev pub set_of : List CloneName → CloneSet
set_of cs = finmap.from_sorted (map key_in cs)

-- its code (profile)
abbrev pub clone_set_code : Coded CloneSet
clone_set_code = set.code (coded× id_code (coded_list coded_ℕ))

-- a clone more (zfs-clone(8))
abbrev pub with_key : CloneSet → CloneKey → CloneSet
with_key s k = finmap.insert s k tt

-- a file system that has this origin more, where it has one (zfs-clone(8))
abbrev pub with_origin : CloneSet → List ℕ → Option SnapId → CloneSet
with_origin s name None = s
with_origin s name (Some id) = with_key s (id, name)

-- one that had this origin less, where it had one (zfs-destroy(8), zfs-promote(8))
abbrev pub without_origin : CloneSet → List ℕ → Option SnapId → CloneSet
without_origin s name None = s
without_origin s name (Some id) = finmap.remove s (id, name)

-- a clone has the origin of the file system of its own, and that has the clone's (zfs-promote(8))
abbrev pub promoted_set : CloneSet → List ℕ → List ℕ → SnapId → Option SnapId → CloneSet
promoted_set s clone owner id above =
    with_origin (without_origin (with_origin (without_origin s owner above) owner (Some id)) clone (Some id)) clone above

-- the names of the clones of this origin, in byte order (zfsprops(7): clones)
abbrev pub names_in : SnapId → List CloneEntry → List (List ℕ)
names_in id es = map (λ e. e.0.1) (filter (λ e. same_id id e.0.0) es)

-- the names of the file systems that have this origin, in byte order (zfsprops(7): clones)
abbrev pub clones_in : FileSystems → SnapId → List (List ℕ)
clones_in m id = map (λ e. e.0) (filter (λ e. option_map_or (same_id id) e.1.origin false) (entries m))

-- the clones rise, by their origins and names (profile)
abbrev pub IsInOrder : List CloneName → Type 0
IsInOrder cs = IsTrue (is_sorted key_cmp (map key_in cs))

-- the clone stands at place i (profile)
pub record IsCloneAt (es : List CloneEntry) (k : CloneKey) (i : ℕ) : Type 0 where
  pub within : i < length es
  pub named : (d : CloneEntry) → (slice_index_or es i d).0 ≡ k

-- the clone would stand at place i: lower ones before it, and higher ones from there on (profile)
pub record IsCloneGap (es : List CloneEntry) (k : CloneKey) (i : ℕ) : Type 0 where
  pub within : i ≤ length es
  pub below : (j : ℕ) (d : CloneEntry) → j < i → key_cmp (slice_index_or es j d).0 k ≡ Less
  pub above : (j : ℕ) (d : CloneEntry) → i ≤ j → j < length es → key_cmp (slice_index_or es j d).0 k ≡ Greater

-- the set has each file system that is a clone, with its origin, and no other (zfsprops(7): clones)
abbrev pub IsListed : FileSystems → CloneSet → Type 0
IsListed m s = (id : SnapId) (name : List ℕ) → contains_key s (id, name) ≡ option_map_or (same_id id) (origin_at m name) false
