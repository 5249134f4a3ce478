-- File systems that go, and the snapshots that go with their clones.
use Rattle.std.specs.Prelude.{◌≡◌, ℕ, List, [], Bool, true, false, not, ◌&&◌, Option, None, Some, is_some, if◌then◌else◌}
use Rattle.std.specs.Option.{option_map_or, option_and_then}
use Rattle.std.specs.List.{list_any}
use Rattle.std.specs.FinMap.{get, entries}
use Rattle.base.specs.declared.refusal.Refusal.{Refusal}
use Rattle.base.specs.declared.refusal.Refusal.TheVariants.{Busy, HasClones}
use Rattle.base.specs.Surveys.{IsIn}
use Rattle.model.specs.World.{FileSystem, Snap, SnapId, id_of, empty_file_system, snap_at, clones_of}
use Rattle.model.specs.State.{Views}
use Rattle.model.specs.Edits.{with_file_systems}
use Rattle.datasets.specs.Rows.{Entry}
use Rattle.model.specs.Hierarchy.{is_in_family}
use Rattle.world.specs.Tables.{Datasets, world_of, without_snap}
use Rattle.removals.specs.Needs.{is_kept, is_held_after}

-- the datasets where the file systems of a family are empty (zfs-destroy(8), -r)
abbrev pub emptied : Datasets → List ℕ → Datasets
emptied t name = record t { file_systems = (with_file_systems (world_of t) (λ n f. if is_in_family name n then empty_file_system else f)).file_systems }

-- each clone of a snapshot of a family is of that family (zfs-destroy(8), -R)
abbrev pub AreClonesInside : Datasets → List ℕ → Type 0
AreClonesInside t name =
    (owner clone : List ℕ) (f c : FileSystem) (s : Snap) → get t.file_systems owner ≡ Some f → get t.file_systems clone ≡ Some c → IsIn f.snaps s → c.origin ≡ Some (id_of s)
    → is_in_family name owner ≡ true → is_in_family name clone ≡ true

-- no file system of a family has a snapshot (zfs-destroy(8), -r)
abbrev pub IsBareFamily : Datasets → List ℕ → Type 0
IsBareFamily t name = (n : List ℕ) (f : FileSystem) → get t.file_systems n ≡ Some f → is_in_family name n ≡ true → f.snaps ≡ []

-- a file system that isn't of the family and is a clone of a snapshot of it (zfs-destroy(8), -R)
abbrev pub is_outside_clone : Datasets → List ℕ → Entry → Bool
is_outside_clone t name r =
    not (is_in_family name r.0) && option_map_or (λ id. option_map_or (λ p. is_in_family name p.0) (snap_at (world_of t) id) false) r.1.origin false

-- a clone of this snapshot isn't of the family (zfs-destroy(8), -R)
abbrev pub is_cloned_outside : Datasets → List ℕ → Snap → Bool
is_cloned_outside t name s = list_any (λ n. not (is_in_family name n)) (clones_of (world_of t) (id_of s))

-- why a family isn't destroyed, if it isn't: a tag or an open view keeps a snapshot of it, or one has a clone outside (zfs-destroy(8); the
-- view is profile)
abbrev pub family_refusal : Datasets → Views → List ℕ → Option Refusal
family_refusal t views name =
    if list_any (λ r. is_in_family name r.0 && list_any (is_held_after views 0) r.1.snaps) (entries t.file_systems)
    then Some Busy
    else if list_any (is_outside_clone t name) (entries t.file_systems) then Some HasClones else None

-- the first datasets have no other file systems than these (zfs-destroy(8))
abbrev pub ArePartOf : Datasets → Datasets → Type 0
ArePartOf u t = (n : List ℕ) (f : FileSystem) → get u.file_systems n ≡ Some f → get t.file_systems n ≡ Some f

-- the snapshot of this identity with the name of its file system, where its destroy is deferred and no tag, no open view and no clone needs
-- it (zfs-destroy(8), -d)
abbrev pub unneeded : Datasets → Views → SnapId → Option (List ℕ × Snap)
unneeded t views id = option_and_then (λ p. if p.1.deferred && not (is_kept t views p.1) then Some p else None) (snap_at (world_of t) id)

-- the datasets without it, and the same where there is none (zfs-destroy(8), -d)
abbrev pub without_unneeded : Datasets → Views → SnapId → Datasets
without_unneeded t views id = option_map_or (λ p. without_snap t (id_of p.1)) (unneeded t views id) t

-- the origin of a file system that isn't there any more (zfs-destroy(8))
abbrev pub removed_origin : Datasets → Entry → Option SnapId
removed_origin t r = if is_some (get t.file_systems r.0) then None else r.1.origin

-- the datasets without the origin of one that isn't there, as far as nothing needs it (zfs-destroy(8), -d)
abbrev pub without_origin : Datasets → Views → Entry → Datasets
without_origin t views r = option_map_or (without_unneeded t views) (removed_origin t r) t

-- the file system of this name is a clone of a snapshot whose destroy is deferred (zfs-destroy(8), -d)
abbrev pub has_deferred_origin : Datasets → List ℕ → Bool
has_deferred_origin t name =
    option_map_or (λ id. option_map_or (λ p. p.1.deferred) (snap_at (world_of t) id) false) (option_and_then (λ f. f.origin) (get t.file_systems name)) false
