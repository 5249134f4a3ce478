-- Worlds whose maps are those of worlds before.
use Rattle.std.proofs.Common.{◌≡◌, ℕ, List, [], ◌∷◌, ◌++◌, Option, Some, None, map, refl, sym, ap, subst, ◌∙◌, ◌⊎◌, inl, inr, ⊎_elim}
use Rattle.std.specs.Prelude.{nat_le, nat_lt, ◌+◌}
use Rattle.std.specs.List.{filter}
use Rattle.std.specs.Option.{option_map, option_map_or}
use Rattle.std.specs.FinMap.{get, insert}
use Rattle.std.specs.FinMap as finmap
use Rattle.base.specs.Map.{Map}
use Rattle.base.specs.Surveys.{IsIn}
use Rattle.base.specs.declared.name.member.Member.{Member}
use Rattle.model.specs.World.{World, FileSystem, Snap, SnapId, maps_of, snap_at, empty_file_system, map_of_snap}
use Rattle.model.specs.Edits.{with_file_system, with_file_systems}
use Rattle.model.specs.requests.Snapshot.{snap_of_live, with_snapshot, with_snapshots}
use Rattle.model.specs.requests.Rollback.{back_at, after_rollback}
use Rattle.model.specs.requests.Clone.{with_clone}
use Rattle.model.specs.requests.Promote.{Promotion, promotion_of, promoted, demoted, after_promotion}
use Rattle.world.specs.Shapes.{Name}
use Rattle.world.specs.Worlds.{AreMapsFrom}
use Rattle.world.proofs.changes.Promotions.{IsPromotion, promotion_is}
use Rattle.world.proofs.lineage.Bridge.{from_snap_at, map_of_found, map_of_absent}
use Rattle.world.proofs.lineage.Put.{put_maps, put_cases}
use Rattle.world.proofs.lists.Finding.{from_filter, in_either}
use Rattle.world.proofs.lists.Listed.{in_map, map_in}
use Rattle.world.proofs.lists.Maps.{same_value, no_value}
use Rattle.world.proofs.removals.Sweep.{get-with_file_systems}
use Rattle.world.proofs.steps.Groups.{same_maps}
use Rattle.world.proofs.steps.SnapshotLists.{maps_through}

abbrev at_map : Snap → Map
at_map t = t.map

-- the map of a snapshot of a file system
pub of_snap : (f : FileSystem) (t : Snap) (m : Map) → IsIn f.snaps t → m ≡ t.map → IsIn (maps_of f) m
of_snap f t m h e = inr (subst (λ y. IsIn (map at_map f.snaps) y) (sym e) (map_in at_map f.snaps t h))

-- one file system is changed, whose maps are its own
pub changed_from : (w : World) (name : Name) (change : FileSystem → FileSystem) → ((f : FileSystem) (m : Map) → get w.file_systems name ≡ Some f → IsIn (maps_of (change f)) m → IsIn (maps_of f) m)
    → AreMapsFrom w.file_systems (with_file_system w name change).file_systems
changed_from w name change own = at (get w.file_systems name) refl
  where
    at : (x : Option FileSystem) → get w.file_systems name ≡ x → AreMapsFrom w.file_systems (option_map_or (λ (f : FileSystem). record w { file_systems = insert w.file_systems name (change f) }) x w).file_systems
    at None e = same_maps w.file_systems
    at (Some f) e = put_maps w.file_systems name (change f) (λ m h. inr (name, f, e, own f m e h))

-- the snapshots of all are changed, but for their maps
pub snaps_changed : (w : World) (change : Snap → Snap) → ((t : Snap) → (change t).map ≡ t.map) → AreMapsFrom w.file_systems (with_file_systems w (λ _ f. record f { snaps = map {A = Snap} change f.snaps })).file_systems
snaps_changed w change same name f m at h = by_system (get w.file_systems name) refl (sym (get-with_file_systems w (λ _ f. record f { snaps = map {A = Snap} change f.snaps }) name) ∙ at)
  where
    of_maps : (g : FileSystem) → get w.file_systems name ≡ Some g → record g { snaps = map {A = Snap} change g.snaps } ≡ f → (m ≡ finmap.empty) ⊎ ((other : Name) × (t : FileSystem) × (get w.file_systems other ≡ Some t) × IsIn (maps_of t) m)
    of_maps g e is = inr (
      name,
      g,
      e,
      ⊎_elim
          (λ (k : m ≡ g.live). inl k)
          (λ k.
          let u = in_map at_map (map {A = Snap} change g.snaps) m k in
          let v = in_map {A = Snap} change g.snaps u.0 u.1 in
          of_snap g v.0 m v.1 (u.2 ∙ ap at_map v.2 ∙ same v.0))
          (subst (λ (x : FileSystem). IsIn (maps_of x) m) (sym is) h),
    )

    by_system : (y : Option FileSystem) → get w.file_systems name ≡ y → option_map (λ (f : FileSystem). record f { snaps = map {A = Snap} change f.snaps }) y ≡ Some f
        → (m ≡ finmap.empty) ⊎ ((other : Name) × (t : FileSystem) × (get w.file_systems other ≡ Some t) × IsIn (maps_of t) m)
    by_system None e k = absurd (no_value f k)
    by_system (Some g) e k = of_maps g e (same_value (record g { snaps = map {A = Snap} change g.snaps }) f k)

-- a clone has the map of its origin
pub clone_from : (w : World) (id : SnapId) (name : Name) → AreMapsFrom w.file_systems (with_clone w id name).file_systems
clone_from w id name = put_maps w.file_systems name (record empty_file_system { live = map_of_snap w (Some id); origin = Some id })
    (λ m h. ⊎_elim (λ (e : m ≡ map_of_snap w (Some id)). by_snap m e (snap_at w id) refl) (λ none. absurd none) h)
  where
    by_snap : (m : Map) → m ≡ map_of_snap w (Some id) → (x : Option (Name × Snap)) → snap_at w id ≡ x
        → (m ≡ finmap.empty) ⊎ ((other : Name) × (t : FileSystem) × (get w.file_systems other ≡ Some t) × IsIn (maps_of t) m)
    by_snap m e None none = inl (e ∙ map_of_absent w id none)
    by_snap m e (Some p) found = let k = from_snap_at w id p found in inr (p.0, k.0, k.1, of_snap k.0 p.1 m k.2 (e ∙ map_of_found w id p found))

-- a snapshot has the map of its file system
pub snapped_from : (w : World) (k : Member) (guid : ℕ) → AreMapsFrom w.file_systems (with_snapshot w k guid).file_systems
snapped_from w k guid = changed_from w k.file_system (λ (f : FileSystem). record f { snaps = f.snaps ++ snap_of_live w f k.component guid ∷ [] }) (λ f m e h. ⊎_elim
    inl
    (λ i.
    let u = in_map at_map (f.snaps ++ snap_of_live w f k.component guid ∷ []) m i in
    ⊎_elim
    (λ j. of_snap f u.0 m j u.2)
    (λ j. ⊎_elim (λ (is : u.0 ≡ snap_of_live w f k.component guid). inl (u.2 ∙ ap at_map is)) (λ none. absurd none) j)
    (in_either f.snaps (snap_of_live w f k.component guid ∷ []) u.0 u.1))
    h)

pub all_snapped_from : (w : World) (guid : ℕ) (ks : List Member) → AreMapsFrom w.file_systems (with_snapshots w guid ks).file_systems
all_snapped_from w guid [] = same_maps w.file_systems
all_snapped_from w guid (k ∷ ks) =
    maps_through w.file_systems (with_snapshot w k guid).file_systems (with_snapshots (with_snapshot w k guid) (guid + 1) ks).file_systems
    (snapped_from w k guid) (all_snapped_from (with_snapshot w k guid) (guid + 1) ks)

-- a file system back at one of its snapshots
pub back_from : (w : World) (id : SnapId) → AreMapsFrom w.file_systems (after_rollback w id).file_systems
back_from w id = by_snap (snap_at w id) refl
  where
    by_snap : (x : Option (Name × Snap)) → snap_at w id ≡ x → AreMapsFrom w.file_systems (option_map_or (λ (p : Name × Snap). with_file_system w p.0 (λ f. back_at f p.1)) x w).file_systems
    by_snap None e = same_maps w.file_systems
    by_snap (Some p) e =
        let k = from_snap_at w id p e in
        changed_from w p.0 (λ f. back_at f p.1) (λ f m there h. ⊎_elim
        (λ (is : m ≡ p.1.map). of_snap f p.1 m (subst (λ (x : FileSystem). IsIn x.snaps p.1) (same_value k.0 f (sym k.1 ∙ there)) k.2) is)
        (λ i. let u = in_map at_map (back_at f p.1).snaps m i in of_snap f u.0 m (from_filter (λ (t : Snap). nat_le t.group p.1.group) f.snaps u.0 u.1).0 u.2)
        h)

-- a promote
pub turned_from : (w : World) (name : Name) (p : Promotion) → promotion_of w name ≡ Some p → AreMapsFrom w.file_systems (after_promotion w name p).file_systems
turned_from w name p is q f m at h = ⊎_elim
    (λ k. inr (of_clone (subst (λ (x : FileSystem). IsIn (maps_of x) m) k.1 h)))
    (λ k. ⊎_elim
    (λ l. inr (p.owner, p.system, found.owner_at, of_owner (subst (λ (x : FileSystem). IsIn (maps_of x) m) l.1 h)))
    (λ l. inr (q, f, l.1, h))
    (put_cases w.file_systems p.owner (demoted p) q f k.1))
    (put_cases (insert w.file_systems p.owner (demoted p)) name (promoted p) q f at)
  where
    found : IsPromotion w name p
    found = promotion_is w name p is

    of_owner : IsIn (maps_of (demoted p)) m → IsIn (maps_of p.system) m
    of_owner h = ⊎_elim
        inl
        (λ k. let u = in_map at_map (demoted p).snaps m k in of_snap p.system u.0 m (from_filter (λ (t : Snap). nat_lt p.origin.group t.group) p.system.snaps u.0 u.1).0 u.2)
        h

    of_clone : IsIn (maps_of (promoted p)) m → (other : Name) × (t : FileSystem) × (get w.file_systems other ≡ Some t) × IsIn (maps_of t) m
    of_clone h = ⊎_elim
        (λ k. (name, p.clone, found.clone_at, inl k))
        (λ k.
        let u = in_map at_map (promoted p).snaps m k in
        ⊎_elim
        (λ i. (p.owner, p.system, found.owner_at, of_snap p.system u.0 m (from_filter (λ (t : Snap). nat_le t.group p.origin.group) p.system.snaps u.0 i).0 u.2))
        (λ i. (name, p.clone, found.clone_at, of_snap p.clone u.0 m i u.2))
        (in_either (filter (λ (t : Snap). nat_le t.group p.origin.group) p.system.snaps) p.clone.snaps u.0 u.1))
        h
