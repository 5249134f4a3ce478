-- A snapshot of a live map, with a group that was open.
use Rattle.std.proofs.Common.{◌≡◌, ℕ, ◌<◌, ◌≤◌, [], ◌∷◌, ◌++◌, Some, sym, ap, subst, ◌∙◌, inl, inr, ⊎_elim, map}
use Rattle.std.specs.FinMap.{get, insert}
use Rattle.base.specs.Map.{Block, blocks}
use Rattle.base.specs.Surveys.{IsIn}
use Rattle.model.specs.World.{FileSystem, Snap, Dataset, Live, Snapped, id_of, maps_of}
use Rattle.world.specs.Sets.{Has}
use Rattle.world.specs.Lineage.{Takes}
use Rattle.world.specs.Shapes.{Name, before_live, IsAmong, name_order, Snaps, lineages}
use Rattle.world.specs.Worlds.{FileSystems, snap_shape, shape_of, shapes, IsTidy, AreFileSystems, AreMapsFrom}
use Rattle.world.proofs.lists.Maps.{same_value, key_cases}
use Rattle.world.proofs.lineage.Moves.{snap_keeps, takes}
use Rattle.world.proofs.lineage.Bridge.{shape_at, from_shape, from_among, shapes-append, start, starts, live_row}
use Rattle.world.proofs.lists.Finding.{in_left, in_either}
use Rattle.world.proofs.lists.Listed.{in_map, map_in}
use Rattle.world.proofs.lineage.Put.{put_here, put_other, put_shape, put_shapes, put_tidy, put_maps, put_hierarchy}

-- the snapshot t of a file system's live map is taken, where the group h is open, and t's group was
module _ (ss : FileSystems) (h : ℕ) (good : AreFileSystems ss h) (name : Name) (s : FileSystem) (at : get ss name ≡ Some s) (t : Snap)
    (map_is : t.map ≡ s.live)
    (fresh : (q : Name) (e : FileSystem) (u : Snap) → get ss q ≡ Some e → IsIn e.snaps u → id_of u ≡ id_of t → ⊥)
    (new_name : (u : Snap) → IsIn s.snaps u → u.name ≡ t.name → ⊥)
    (closed : (b : Block) → Has (blocks s.live) b → b.birth ≤ t.group)
    (above : (before_live (start ss h good.lines name s at) (map snap_shape s.snaps)).base < t.group)
    (opens : t.group < h) where
  abbrev longer : FileSystem
  longer = record s { snaps = s.snaps ++ t ∷ [] }

  abbrev pub snaps : Snaps (shapes ss) (shapes (insert ss name (record s { snaps = s.snaps ++ t ∷ [] }))) name (id_of t)
  snaps = record {
    system = shape_of s;
    at = shape_at ss name s at;
    fresh = λ x has.
        let e = from_shape ss has.0 has.1 has.2 in
        let u = from_among e.0.snaps x (subst (λ y. IsAmong y.snapshots x) e.2 has.3) in
        fresh has.0 e.0 u.0 e.1 u.1 (sym (ap (λ y. y.id) u.2) ∙ has.4);
    here = put_shape ss name (record s { snaps = s.snaps ++ t ∷ [] })
        ∙ ap (λ l. Some (record (shape_of s) { snapshots = l })) (shapes-append s.snaps (t ∷ []) ∙ ap (λ m. map snap_shape s.snaps ++ record { id = id_of t; blocks = blocks m } ∷ []) map_is);
    others = λ other ne. put_shapes ss name (record s { snaps = s.snaps ++ t ∷ [] }) other ne;
  }

  tidy_longer : IsTidy h (record s { snaps = s.snaps ++ t ∷ [] })
  tidy_longer = let k = good.tidy name s at in record {
    names = λ u v i j e. ⊎_elim
        (λ a. ⊎_elim (λ b. k.names u v a b e) (λ b. ⊎_elim (λ (x : v ≡ t). absurd (new_name u a (e ∙ ap (λ y. y.name) x))) (λ x. absurd x) b) (in_either s.snaps (t ∷ []) v j))
        (λ a. ⊎_elim
        (λ (x : u ≡ t). ⊎_elim (λ b. absurd (new_name v b (sym e ∙ ap (λ y. y.name) x))) (λ b. ⊎_elim (λ (y : v ≡ t). x ∙ sym y) (λ y. absurd y) b) (in_either s.snaps (t ∷ []) v j))
        (λ x. absurd x) a)
        (in_either s.snaps (t ∷ []) u i);
    bookmarks = k.bookmarks;
  }

  pub taken_from : AreMapsFrom ss (insert ss name (record s { snaps = s.snaps ++ t ∷ [] }))
  taken_from = put_maps ss name longer (λ m i. inr (
    name,
    s,
    at,
    ⊎_elim inl (λ k.
        let u = in_map (λ (t : Snap). t.map) (s.snaps ++ t ∷ []) m k in
        ⊎_elim
        (λ a. inr (subst (λ y. IsIn (map (λ (t : Snap). t.map) s.snaps) y) (sym u.2) (map_in (λ (t : Snap). t.map) s.snaps u.0 a)))
        (λ a. ⊎_elim (λ (x : u.0 ≡ t). inl (u.2 ∙ ap (λ y. y.map) x ∙ map_is)) (λ x. absurd x) a)
        (in_either s.snaps (t ∷ []) u.0 u.1)) i,
  ))

  pub taken_back : AreMapsFrom (insert ss name (record s { snaps = s.snaps ++ t ∷ [] })) ss
  taken_back q e m is i = ⊎_elim
      (λ (same : q ≡ name).
      let one : e ≡ s = same_value e s (sym is ∙ ap (get ss) same ∙ at) in
      inr (
        name,
        longer,
        put_here ss name longer,
        ⊎_elim inl (λ k. inr (
            let u = in_map (λ (t : Snap). t.map) s.snaps m k in
            subst (λ y. IsIn (map (λ (t : Snap). t.map) (s.snaps ++ t ∷ [])) y) (sym u.2) (map_in (λ (t : Snap). t.map) (s.snaps ++ t ∷ []) u.0 (in_left s.snaps (t ∷ []) u.0 u.1))))
            (subst (λ x. IsIn (maps_of x) m) one i),
      ))
      (λ (other : ¬ (q ≡ name)). inr (q, e, put_other ss name longer q other ∙ is, i))
      (key_cases name_order q name)

  pub take_systems : AreFileSystems (insert ss name (record s { snaps = s.snaps ++ t ∷ [] })) h
  take_systems = record {
    lines = (snap_keeps (shapes ss) (shapes (insert ss name longer)) h name (id_of t) (start ss h good.lines name s at) good.lines snaps (starts ss h good.lines name s at) closed above opens).0;
    hierarchy = put_hierarchy ss name s longer at good.hierarchy;
    tidy = put_tidy ss name longer h good.tidy tidy_longer;
  }

  -- ---- the rows

  pub step : Takes Dataset (lineages (shapes ss) h) (lineages (shapes (insert ss name (record s { snaps = s.snaps ++ t ∷ [] }))) h) (Live name) (live_row ss h good.lines name s at) (Snapped (id_of t)) t.group h
  step = takes (shapes ss) (shapes (insert ss name longer)) h good.lines name (shape_of s) (shape_at ss name s at) (id_of t) snaps.fresh snaps.here snaps.others
      (start ss h good.lines name s at) (starts ss h good.lines name s at) closed above opens
