-- Snapshots that are there stay there through a step, and so each view's snapshot does; and what only labels a file system.
use Rattle.std.proofs.Common.{◌≡◌, ℕ, List, [], ◌∷◌, Option, Some, None, refl, sym, ap, subst, ◌∙◌, true≢false, inr, ⊎_elim, map, arith}
use Rattle.std.specs.Prelude.{IsSome, is_some}
use Rattle.std.specs.Option.{option_map}
use Rattle.std.specs.FinMap.{get, insert}
use Rattle.base.specs.Map.{Map}
use Rattle.base.specs.Surveys.{IsIn}
use Rattle.model.specs.World.{World, FileSystem, Snap, SnapId, id_of, snap_at, maps_of}
use Rattle.world.specs.Shapes.{Name, name_order, IsGood}
use Rattle.world.specs.Worlds.{FileSystems, snap_shape, shape_of, shapes, IsTidy, AreFileSystems, IsWorld, ArePaired, AreMapsFrom}
use Rattle.world.proofs.lists.Maps.{key_cases}
use Rattle.world.proofs.lineage.Bridge.{from_snap_at, snap_is_at}
use Rattle.world.proofs.lineage.Put.{put_here, put_other, put_shape, put_shapes, put_tidy, put_maps, put_hierarchy}
use Rattle.world.proofs.changes.Kept.{world_same, pair_same}

-- every snapshot of the first has its like, of the same identity, in the second (profile)
abbrev pub AreSnapsIn : FileSystems → FileSystems → Type 0
AreSnapsIn ss later =
    (q : Name) (e : FileSystem) (u : Snap) → get ss q ≡ Some e → IsIn e.snaps u
    → (r : Name) × (f : FileSystem) × (v : Snap) × (get later r ≡ Some f) × IsIn f.snaps v × (id_of v ≡ id_of u)

pub snap_stays : (w new : World) (h : ℕ) → IsGood (shapes new.file_systems) h → AreSnapsIn w.file_systems new.file_systems → (id : SnapId) → IsSome (snap_at w id) → IsSome (snap_at new id)
snap_stays w new h good there id some = by_snap (snap_at w id) refl
  where
    by_snap : (x : Option (Name × Snap)) → snap_at w id ≡ x → IsSome (snap_at new id)
    by_snap None e = absurd (true≢false (sym some ∙ ap is_some e))
    by_snap (Some p) e =
        let k = from_snap_at w id p e in
        let r = there p.0 k.0 p.1 k.1 k.2 in
        ap is_some (snap_is_at new h good r.0 r.1 r.2 id r.3 r.4 (r.5 ∙ k.3))

-- a file system is replaced by one that has its snapshots, or is new
pub snaps_in_put : (ss : FileSystems) (name : Name) (t : FileSystem) → ((s : FileSystem) (u : Snap) → get ss name ≡ Some s → IsIn s.snaps u → (v : Snap) × IsIn t.snaps v × (id_of v ≡ id_of u))
    → AreSnapsIn ss (insert ss name t)
snaps_in_put ss name t more q e u at h = ⊎_elim
    (λ (same : q ≡ name). let v = more e u (ap (get ss) (sym same) ∙ at) h in (name, t, v.0, put_here ss name t, v.1, v.2))
    (λ (other : ¬ (q ≡ name)). (q, e, u, put_other ss name t q other ∙ at, h, refl))
    (key_cases name_order q name)

-- ---- tags, marks, limits and bookmarks: the shape of the file system stays

module _ (ss : FileSystems) (g : ℕ) (good : AreFileSystems ss g) (name : Name) (s t : FileSystem) (at : get ss name ≡ Some s) (shape : shape_of t ≡ shape_of s)
    (maps : (m : Map) → IsIn (maps_of t) m → IsIn (maps_of s) m) (tidy : IsTidy g t) where
  same_shapes : shapes (insert ss name t) ≡ shapes ss
  same_shapes i q = each q i
    where
      each : (q : Name) → shapes (insert ss name t) q ≡ shapes ss q
      each q = ⊎_elim
          (λ (same : q ≡ name). ap (shapes (insert ss name t)) same ∙ put_shape ss name t ∙ ap Some shape ∙ sym (ap (option_map shape_of) at) ∙ ap (shapes ss) (sym same))
          (λ (other : ¬ (q ≡ name)). put_shapes ss name t q other)
          (key_cases name_order q name)

  pub label_systems : AreFileSystems (insert ss name t) g
  label_systems = record {
    lines = subst (λ m. IsGood m g) (sym same_shapes) good.lines;
    hierarchy = put_hierarchy ss name s t at good.hierarchy;
    tidy = put_tidy ss name t g good.tidy tidy;
  }

  pub label_from : AreMapsFrom ss (insert ss name t)
  label_from = put_maps ss name t (λ m h. inr (name, s, at, maps m h))

module _ (size : ℕ) (w : World) (good : IsWorld size w) (name : Name) (s t : FileSystem) (at : get w.file_systems name ≡ Some s) (shape : shape_of t ≡ shape_of s)
    (maps : (m : Map) → IsIn (maps_of t) m → IsIn (maps_of s) m) (tidy : IsTidy w.group t) where
  pub label_world : IsWorld size (record w { file_systems = insert w.file_systems name t })
  label_world = world_same size w (record w { file_systems = insert w.file_systems name t }) good
      (label_from w.file_systems w.group good.systems name s t at shape maps tidy)
      (label_systems w.file_systems w.group good.systems name s t at shape maps tidy) refl

  pub label_pairs : (last : World) → ArePaired size w last → ArePaired size (record w { file_systems = insert w.file_systems name t }) last
  label_pairs last = pair_same size w (record w { file_systems = insert w.file_systems name t }) good
      (label_from w.file_systems w.group good.systems name s t at shape maps tidy) last refl (omega arith)

-- snapshots changed in their tags and marks alone
pub same_shapes_mapped : (change : Snap → Snap) → ((u : Snap) → snap_shape (change u) ≡ snap_shape u) → (us : List Snap) → map snap_shape (map change us) ≡ map snap_shape us
same_shapes_mapped change same [] = refl
same_shapes_mapped change same (u ∷ us) = λ i. same u i ∷ same_shapes_mapped change same us i

pub same_maps_mapped : (change : Snap → Snap) → ((u : Snap) → (change u).map ≡ u.map) → (us : List Snap) → map (λ (t : Snap). t.map) (map change us) ≡ map (λ (t : Snap). t.map) us
same_maps_mapped change same [] = refl
same_maps_mapped change same (u ∷ us) = λ i. same u i ∷ same_maps_mapped change same us i
