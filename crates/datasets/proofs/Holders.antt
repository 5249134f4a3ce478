-- A snapshot that was found with its file system.
use Rattle.std.proofs.Common.{◌≡◌, List, ℕ, Option, Some, None, refl, sym, ap, ◌∙◌}
use Rattle.std.specs.List.{find}
use Rattle.std.specs.Option.{option_map, option_and_then}
use Rattle.std.specs.FinMap.{get}
use Rattle.base.specs.Names.{same_name}
use Rattle.base.specs.declared.name.member.Member.{Member}
use Rattle.model.specs.World.{FileSystem, Snap, SnapId, id_of, same_id, snap_named}
use Rattle.world.specs.Tables.{Datasets, world_of}
use Rattle.world.proofs.lists.Finding.{from_find, same_id_is}
use Rattle.world.proofs.lists.Maps.{same_value, no_value}
use Rattle.file_system.specs.Rows.{Row}
use Rattle.datasets.specs.Clones.{row_in}
use Rattle.datasets.specs.Holders.{snapshot_place, IsPlace}

-- the file system that was found
pub found_place : (t : Datasets) (name : List ℕ) (r : Row) → Some r ≡ option_map {T = FileSystem} {U = Row} (λ f. row_in t.file_systems (name, f)) (get t.file_systems name)
    → (get t.file_systems name ≡ Some r.system) × (r ≡ row_in t.file_systems (name, r.system))
found_place t name r e = at (get t.file_systems name) refl e
  where
    at : (x : Option FileSystem) → get t.file_systems name ≡ x → Some r ≡ option_map {T = FileSystem} {U = Row} (λ f. row_in t.file_systems (name, f)) x
        → (get t.file_systems name ≡ Some r.system) × (r ≡ row_in t.file_systems (name, r.system))
    at None g h = absurd (no_value r (sym h))
    at (Some f) g h =
        let is = same_value r (row_in t.file_systems (name, f)) h in
        let same : r.system ≡ f = ap (λ (x : Row). x.system) is in
        (g ∙ ap Some (sym same), is ∙ ap (λ (f : FileSystem). row_in t.file_systems (name, f)) (sym same))

-- the file system was found, and then the snapshot
module _ (t : Datasets) (m : Member) (r : Row) where
  abbrev IsFound : Type 0
  IsFound = Some r ≡ option_map {T = FileSystem} {U = Row} (λ f. row_in t.file_systems (m.file_system, f)) (get t.file_systems m.file_system)

  pub placed : (u : Snap) → IsFound → Some u ≡ find (λ (v : Snap). same_name v.name m.component) r.system.snaps → Some (r, u) ≡ snapshot_place t m
  placed u found named =
      let p = found_place t m.file_system r found in
      sym (ap (option_and_then {T = FileSystem} {U = Row × Snap} (λ f. option_map (λ (u : Snap). (row_in t.file_systems (m.file_system, f), u)) (find (λ (v : Snap). same_name v.name m.component) f.snaps))) p.0
      ∙ ap (option_map {T = Snap} {U = Row × Snap} (λ u. (row_in t.file_systems (m.file_system, r.system), u))) (sym named)
      ∙ ap (λ x. Some (x, u)) (sym p.1))

-- it is the snapshot of the name
pub place_named : (t : Datasets) (m : Member) → option_map {T = Row × Snap} {U = Snap} (λ p. p.1) (snapshot_place t m) ≡ snap_named (world_of t) m
place_named t m = by_system (get t.file_systems m.file_system)
  where
    by_snap : (f : FileSystem) (y : Option Snap) → option_map {T = Row × Snap} {U = Snap} (λ p. p.1) (option_map {T = Snap} {U = Row × Snap} (λ u. (row_in t.file_systems (m.file_system, f), u)) y) ≡ y
    by_snap f None = refl
    by_snap f (Some u) = refl

    by_system : (x : Option FileSystem)
        → option_map {T = Row × Snap} {U = Snap} (λ p. p.1) (option_and_then {T = FileSystem} {U = Row × Snap} (λ f. option_map (λ (u : Snap). (row_in t.file_systems (m.file_system, f), u)) (find (λ (v : Snap). same_name v.name m.component) f.snaps)) x)
        ≡ option_and_then {T = FileSystem} {U = Snap} (λ f. find (λ (v : Snap). same_name v.name m.component) f.snaps) x
    by_system None = refl
    by_system (Some f) = by_snap f (find (λ (v : Snap). same_name v.name m.component) f.snaps)

-- a snapshot that was found by its identity stands in its file system
pub stands_there : (t : Datasets) (id : SnapId) (r : Row) (u : Snap) → r ≡ row_in t.file_systems (r.name, r.system) → get t.file_systems r.name ≡ Some r.system
    → find (λ (v : Snap). same_id (id_of v) id) r.system.snaps ≡ Some u → IsPlace t r (Some u) × (id_of u ≡ id)
stands_there t id r u row at found =
    let k = from_find (λ (v : Snap). same_id (id_of v) id) r.system.snaps u found in
    (record { row = row; at = at; snap = k.0 }, same_id_is (id_of u) id k.1)
