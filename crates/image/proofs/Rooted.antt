-- The roots that are told of a world are those of its datasets.
use Rattle.std.proofs.Common.{◌≡◌, ℕ, List, None, Some, refl, sym, subst, ⊎_elim}
use Rattle.std.specs.FinMap.{get, entries}
use Rattle.base.specs.Map.{Map, contents}
use Rattle.base.specs.Surveys.{IsIn}
use Rattle.model.specs.World.{World, FileSystem, Snap, Live, Snapped, id_of}
use Rattle.world.specs.Worlds.{IsWorld}
use Rattle.world.proofs.lineage.Bridge.{from_entries, map_of_live, map_of_kept}
use Rattle.world.proofs.lists.Finding.{from_flat}
use Rattle.world.proofs.lists.Listed.{in_map}
use Rattle.world.proofs.lists.Maps.{at_entry}
use Rattle.world.specs.Shapes.{name_order}
use Rattle.image.specs.HasBlocks.{root_of}
use Rattle.image.specs.ImageWalk.{walk}
use Rattle.image.specs.Roots.{RootAt, own_roots, roots_in, IsRootOf}
use Rattle.image.specs.Stored.{AllWalk}

module _ (image : ℕ → List ℕ) (n size : ℕ) (w : World) (good : IsWorld size w) (all : AllWalk image n w) where
  abbrev live_root : List ℕ → FileSystem → RootAt
  live_root name f = record { file_system = name; snapshot = None; root = root_of f.live }

  abbrev snap_root : List ℕ → Snap → RootAt
  snap_root name t = record { file_system = name; snapshot = Some t.name; root = root_of t.map }

  live_walked : (name : List ℕ) (f : FileSystem) → get w.file_systems name ≡ Some f → walk image n (root_of f.live) ≡ Some (contents f.live)
  live_walked name f at = subst (λ m. walk image n (root_of m) ≡ Some (contents m)) (map_of_live w name f at) (all (Live name))

  snap_walked : (name : List ℕ) (f : FileSystem) (t : Snap) → get w.file_systems name ≡ Some f → IsIn f.snaps t → walk image n (root_of t.map) ≡ Some (contents t.map)
  snap_walked name f t at h =
      subst (λ m. walk image n (root_of m) ≡ Some (contents m)) (map_of_kept w w.group good.systems.lines name f t (id_of t) at h refl) (all (Snapped (id_of t)))

  of_live : (name : List ℕ) (f : FileSystem) (r : RootAt) → get w.file_systems name ≡ Some f → r ≡ live_root name f → (m : Map) × IsRootOf w.file_systems r m × (walk image n r.root ≡ Some (contents m))
  of_live name f r at is =
      subst (λ (r : RootAt). (m : Map) × IsRootOf w.file_systems r m × (walk image n r.root ≡ Some (contents m))) (sym is)
      (f.live, record { system = f; there = at; map = refl }, live_walked name f at)

  of_snap : (name : List ℕ) (f : FileSystem) (t : Snap) (r : RootAt) → get w.file_systems name ≡ Some f → IsIn f.snaps t → r ≡ snap_root name t
      → (m : Map) × IsRootOf w.file_systems r m × (walk image n r.root ≡ Some (contents m))
  of_snap name f t r at h is =
      subst (λ (r : RootAt). (m : Map) × IsRootOf w.file_systems r m × (walk image n r.root ≡ Some (contents m))) (sym is)
      (t.map, record { system = f; there = at; map = (t, h, refl, refl) }, snap_walked name f t at h)

  -- each is walked
  pub root_walked : (r : RootAt) → IsIn (roots_in w.file_systems) r → (m : Map) × IsRootOf w.file_systems r m × (walk image n r.root ≡ Some (contents m))
  root_walked r i =
      let e = from_flat own_roots (entries w.file_systems) r i in
      let at = at_entry name_order w.file_systems e.0.0 e.0.1 (from_entries (entries w.file_systems) e.0 e.1) in
      ⊎_elim
      (λ (is : r ≡ live_root e.0.0 e.0.1). of_live e.0.0 e.0.1 r at is)
      (λ k. let t = in_map (snap_root e.0.0) e.0.1.snaps r k in of_snap e.0.0 e.0.1 t.0 r at t.1 t.2)
      e.2
