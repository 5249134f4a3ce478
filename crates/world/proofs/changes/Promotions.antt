-- A clone is promoted.
use Rattle.std.proofs.Common.{◌≡◌, ℕ, List, [], ◌∷◌, ◌++◌, Option, Some, None, refl, sym, ap, subst, ◌∙◌, ◌↔◌, inl, inr, ⊎_elim, map, arith}
use Rattle.std.specs.Prelude.{nat_le, nat_lt}
use Rattle.std.specs.List.{filter}
use Rattle.std.specs.Option.{option_map, option_and_then}
use Rattle.std.specs.FinMap.{get, insert}
use Rattle.std.proofs.lemmas.Bool.{lt-ltb, ltb-true, le-leb, leb-true}
use Rattle.base.specs.Map.{Map, blocks}
use Rattle.base.specs.Surveys.{IsIn}
use Rattle.model.specs.World.{World, FileSystem, Snap, SnapId, Dataset, Snapped, id_of, snap_at, maps_of, union_of, previous_of, file_system_at}
use Rattle.world.specs.Blocks.{block_order as o}
use Rattle.world.specs.Lineage.{Row}
use Rattle.world.specs.Shapes.{Name, name_order, Starts, Promotes, lineages, IsGood}
use Rattle.world.specs.Worlds.{FileSystems, snap_shape, shape_of, shapes, IsTidy, AreRising, AreFileSystems, IsWorld, ArePaired, AreMapsFrom}
use Rattle.world.specs.Outcomes.{Promotion, promotion_of, promoted_snaps, promoted, demoted, after_promotion, snaps_after}
use Rattle.world.specs.Dead.{IsThere}
use Rattle.world.proofs.lists.SetCounts.{same_members}
use Rattle.world.proofs.lists.Maps.{same_value, no_value, key_cases}
use Rattle.world.proofs.lineage.Promotes.{promote_keeps}
use Rattle.world.proofs.lineage.Bridge.{shape_at, shapes-append, start, starts, start_is, rising, rising_above, rising_below, rising_after, from_snap_at, row_prev, union_is}
use Rattle.world.proofs.lists.Finding.{filter_front, filter_back, from_filter, in_left, in_right, in_either}
use Rattle.world.proofs.lists.Listed.{in_map, map_in}
use Rattle.world.proofs.lineage.Put.{put_here, put_other, put_cases, put_hierarchy, put_tidy, put_shape, put_shapes}
use Rattle.world.proofs.changes.Views.{AreSnapsIn}
use Rattle.world.proofs.lineage.Dead.{there_row}
use Rattle.world.proofs.changes.Drawn.{union_from}
use Rattle.world.proofs.changes.Kept.{world_same, pair_same}

-- ---- lists

pub split_at : (ts : List Snap) (t : Snap) → IsIn ts t → (older : List Snap) × (newer : List Snap) × (ts ≡ older ++ t ∷ newer)
split_at [] t h = absurd h
split_at (x ∷ xs) t h = ⊎_elim
    (λ (e : t ≡ x). ([], xs, ap (λ y. y ∷ xs) (sym e)))
    (λ k. let r = split_at xs t k in (x ∷ r.0, r.1, ap (λ l. x ∷ l) r.2))
    h

pub append_assoc : (xs ys zs : List Snap) → (xs ++ ys) ++ zs ≡ xs ++ (ys ++ zs)
append_assoc [] ys zs = refl
append_assoc (x ∷ xs) ys zs = ap (λ l. x ∷ l) (append_assoc xs ys zs)

module _ (g : ℕ) (older : List Snap) (t : Snap) (newer : List Snap) (up : AreRising g (older ++ t ∷ newer)) where
  pub upto_is : filter (λ (u : Snap). nat_le u.group t.group) (older ++ t ∷ newer) ≡ older ++ t ∷ []
  upto_is = ap (filter (λ (u : Snap). nat_le u.group t.group)) (sym (append_assoc older (t ∷ []) newer))
      ∙ filter_front (λ (u : Snap). nat_le u.group t.group) (older ++ t ∷ []) newer
      (λ u i. ⊎_elim
      (λ k. le-leb u.group t.group (let l = rising_below g older t newer up u k in omega arith))
      (λ k. ⊎_elim (λ (e : u ≡ t). le-leb u.group t.group (let l = ap (λ (x : Snap). x.group) e in omega arith)) (λ x. absurd x) k)
      (in_either older (t ∷ []) u i))
      (λ u i e. let l = leb-true u.group t.group e in let m = rising_above t.group newer u (rising_after g older t newer up) i in absurd (omega arith))

  pub after_is : filter (λ (u : Snap). nat_lt t.group u.group) (older ++ t ∷ newer) ≡ newer
  after_is = ap (filter (λ (u : Snap). nat_lt t.group u.group)) (sym (append_assoc older (t ∷ []) newer))
      ∙ filter_back (λ (u : Snap). nat_lt t.group u.group) (older ++ t ∷ []) newer
      (λ u i e. let l = ltb-true t.group u.group e in ⊎_elim
      (λ k. let m = rising_below g older t newer up u k in absurd (omega arith))
      (λ k. ⊎_elim (λ (e : u ≡ t). let m = ap (λ (x : Snap). x.group) e in absurd (omega arith)) (λ x. absurd x) k)
      (in_either older (t ∷ []) u i))
      (λ u i. lt-ltb t.group u.group (rising_above t.group newer u (rising_after g older t newer up) i))

-- ---- what a promotion is

pub record IsPromotion (w : World) (name : Name) (p : Promotion) : Type 0 where
  pub clone_at : get w.file_systems name ≡ Some p.clone
  pub origin_is : p.clone.origin ≡ Some p.origin
  pub origin : Snap
  pub found : snap_at w p.origin ≡ Some (p.owner, origin)
  pub owner_at : get w.file_systems p.owner ≡ Some p.system

pub promotion_is : (w : World) (name : Name) (p : Promotion) → promotion_of w name ≡ Some p → IsPromotion w name p
promotion_is w name p h = by_clone (get w.file_systems name) refl h
  where
    made : FileSystem → SnapId → Name × Snap → FileSystem → Promotion
    made c id o s = record { clone = c; origin = id; owner = o.0; system = s }

    by_system : (c : FileSystem) → get w.file_systems name ≡ Some c → (id : SnapId) → c.origin ≡ Some id → (o : Name × Snap) → snap_at w id ≡ Some o
        → (x : Option FileSystem) → get w.file_systems o.0 ≡ x → option_map (made c id o) x ≡ Some p → IsPromotion w name p
    by_system c at id i o f None e k = absurd (no_value p k)
    by_system c at id i o f (Some s) e k =
        let same = same_value (made c id o s) p k in
        subst (IsPromotion w name) same (record { clone_at = at; origin_is = i; origin = o.1; found = f; owner_at = e })

    by_snap : (c : FileSystem) → get w.file_systems name ≡ Some c → (id : SnapId) → c.origin ≡ Some id → (x : Option (Name × Snap)) → snap_at w id ≡ x
        → option_and_then (λ (o : Name × Snap). option_map (made c id o) (file_system_at w o.0)) x ≡ Some p → IsPromotion w name p
    by_snap c at id i None e k = absurd (no_value p k)
    by_snap c at id i (Some o) e k = by_system c at id i o e (get w.file_systems o.0) refl k

    by_origin : (c : FileSystem) → get w.file_systems name ≡ Some c → (x : Option SnapId) → c.origin ≡ x
        → option_and_then (λ (id : SnapId). option_and_then (λ (o : Name × Snap). option_map (made c id o) (file_system_at w o.0)) (snap_at w id)) x ≡ Some p → IsPromotion w name p
    by_origin c at None e k = absurd (no_value p k)
    by_origin c at (Some id) e k = by_snap c at id e (snap_at w id) refl k

    by_clone : (x : Option FileSystem) → get w.file_systems name ≡ x
        → option_and_then (λ (c : FileSystem). option_and_then (λ (id : SnapId). option_and_then (λ (o : Name × Snap). option_map (made c id o) (file_system_at w o.0)) (snap_at w id)) c.origin) x ≡ Some p → IsPromotion w name p
    by_clone None e k = absurd (no_value p k)
    by_clone (Some c) e k = by_origin c e c.origin refl k

module _ (w : World) (good : AreFileSystems w.file_systems w.group) (name : Name) (p : Promotion) (is : promotion_of w name ≡ Some p)
    (clash : (t u : Snap) → IsIn (promoted_snaps p) t → IsIn p.clone.snaps u → t.name ≡ u.name → ⊥) where
  abbrev ss : FileSystems
  ss = w.file_systems

  abbrev lines : IsGood (shapes w.file_systems) w.group
  lines = good.lines

  P : IsPromotion w name p
  P = promotion_is w name p is

  t : Snap
  t = P.origin

  -- the owner has the origin
  owner_has : IsIn p.system.snaps t × (id_of t ≡ p.origin)
  unfolding t
  owner_has =
      let k = from_snap_at w p.origin (p.owner, P.origin) P.found in
      (subst (λ (x : FileSystem). IsIn x.snaps P.origin) (same_value k.0 p.system (sym k.1 ∙ P.owner_at)) k.2, k.3)

  older : List Snap
  older = (split_at p.system.snaps t owner_has.0).0

  newer : List Snap
  newer = (split_at p.system.snaps t owner_has.0).1

  snaps_are : p.system.snaps ≡ older ++ t ∷ newer
  unfolding older newer
  snaps_are = (split_at p.system.snaps t owner_has.0).2

  up : AreRising (start ss w.group lines p.owner p.system P.owner_at).base (older ++ t ∷ newer)
  up = subst (AreRising (start ss w.group lines p.owner p.system P.owner_at).base) snaps_are (rising ss w.group lines p.owner p.system P.owner_at)

  group_is : t.group ≡ p.origin.group
  group_is = ap (λ (i : SnapId). i.group) owner_has.1

  upto : promoted_snaps p ≡ older ++ t ∷ []
  upto = (λ i. filter (λ (u : Snap). nat_le u.group (sym group_is i)) (snaps_are i)) ∙ upto_is _ older t newer up

  later : snaps_after p.system p.origin.group ≡ newer
  later = (λ i. filter (λ (u : Snap). nat_lt (sym group_is i) u.group) (snaps_are i)) ∙ after_is _ older t newer up

  -- the clone isn't the owner: groups rise from its origin on
  other : ¬ (name ≡ p.owner)
  other same =
      let one : p.clone ≡ p.system = same_value p.clone p.system (sym P.clone_at ∙ ap (get ss) same ∙ P.owner_at) in
      let q = start ss w.group lines p.owner p.system P.owner_at in
      let st = starts ss w.group lines p.owner p.system P.owner_at in
      let origin : p.system.origin ≡ Some p.origin = ap (λ (x : FileSystem). x.origin) (sym one) ∙ P.origin_is in
      let base : q.base ≡ p.origin.group = (start_is w w.group lines (Some p.origin) q (subst (λ x. Starts (shapes ss) x q) origin st)).1 in
      let l = rising_above q.base p.system.snaps t (rising ss w.group lines p.owner p.system P.owner_at) owner_has.0 in
      let e = group_is in
      absurd (omega arith)

  abbrev mid : FileSystems
  mid = insert w.file_systems p.owner (demoted p)

  abbrev fs : FileSystems
  fs = insert (insert w.file_systems p.owner (demoted p)) name (promoted p)

  abbrev new : World
  new = after_promotion w name p

  promotes : Promotes (shapes w.file_systems) (shapes fs) name p.owner
  promotes = record {
    clone = shape_of p.clone;
    owner = shape_of p.system;
    older = map snap_shape older;
    origin = snap_shape t;
    newer = map snap_shape newer;
    other = other;
    clone_at = shape_at ss name p.clone P.clone_at;
    owner_at = shape_at ss p.owner p.system P.owner_at;
    origin_is = P.origin_is ∙ ap Some (sym owner_has.1);
    owned = ap (map snap_shape) snaps_are ∙ shapes-append older (t ∷ newer);
    clone_new = put_shape mid name (promoted p)
        ∙ ap (λ l. Some (record { live = blocks p.clone.live; snapshots = l; origin = p.system.origin }))
        (ap (λ l. map snap_shape (l ++ p.clone.snaps)) upto ∙ ap (map snap_shape) (append_assoc older (t ∷ []) p.clone.snaps) ∙ shapes-append older (t ∷ p.clone.snaps));
    owner_new = put_shapes mid name (promoted p) p.owner (λ e. other (sym e)) ∙ put_shape ss p.owner (demoted p)
        ∙ (λ i. Some (record { live = blocks p.system.live; snapshots = map snap_shape (later i); origin = Some (sym owner_has.1 i) }));
    others = λ q nc ng. put_shapes mid name (promoted p) q nc ∙ put_shapes ss p.owner (demoted p) q ng;
  }

  both : IsGood (shapes fs) w.group × ((d : Dataset) (n : Row Dataset) → lineages (shapes w.file_systems) w.group d n ↔ lineages (shapes fs) w.group d n)
  both = promote_keeps (shapes w.file_systems) (shapes fs) name p.owner w.group promotes lines

  clone_mid : get mid name ≡ Some p.clone
  clone_mid = put_other ss p.owner (demoted p) name other ∙ P.clone_at

  was_promoted : (u : Snap) → IsIn (promoted_snaps p) u → IsIn p.system.snaps u
  was_promoted u h = (from_filter (λ (u : Snap). nat_le u.group p.origin.group) p.system.snaps u h).0

  was_later : (u : Snap) → IsIn (snaps_after p.system p.origin.group) u → IsIn p.system.snaps u
  was_later u h = (from_filter (λ (u : Snap). nat_lt p.origin.group u.group) p.system.snaps u h).0

  tidy_clone : IsTidy w.group (promoted p)
  tidy_clone =
      let a = good.tidy name p.clone P.clone_at in
      let b = good.tidy p.owner p.system P.owner_at in
      record {
        names = λ u v h k e. ⊎_elim
            (λ i. ⊎_elim (λ j. b.names u v (was_promoted u i) (was_promoted v j) e) (λ j. absurd (clash u v i j e)) (in_either (promoted_snaps p) p.clone.snaps v k))
            (λ i. ⊎_elim (λ j. absurd (clash v u j i (sym e))) (λ j. a.names u v i j e) (in_either (promoted_snaps p) p.clone.snaps v k))
            (in_either (promoted_snaps p) p.clone.snaps u h);
        bookmarks = a.bookmarks;
      }

  tidy_owner : IsTidy w.group (demoted p)
  tidy_owner =
      let b = good.tidy p.owner p.system P.owner_at in
      record { names = λ u v h k e. b.names u v (was_later u h) (was_later v k) e; bookmarks = b.bookmarks }

  pub promote_systems : AreFileSystems (insert (insert w.file_systems p.owner (demoted p)) name (promoted p)) w.group
  promote_systems = record {
    lines = both.0;
    hierarchy = put_hierarchy mid name p.clone (promoted p) clone_mid (put_hierarchy ss p.owner p.system (demoted p) P.owner_at good.hierarchy);
    tidy = put_tidy mid name (promoted p) w.group (put_tidy ss p.owner (demoted p) w.group good.tidy tidy_owner) tidy_clone;
  }

  -- ---- maps

  abbrev at_map : Snap → Map
  at_map u = u.map

  in_owner : (u : Snap) (m : Map) → IsIn p.system.snaps u → m ≡ u.map → IsIn (maps_of p.system) m
  in_owner u m h e = inr (subst (λ y. IsIn (map at_map p.system.snaps) y) (sym e) (map_in at_map p.system.snaps u h))

  from : AreMapsFrom w.file_systems (insert (insert w.file_systems p.owner (demoted p)) name (promoted p))
  from q s m at h = ⊎_elim
      (λ k. inr (of_clone (subst (λ (x : FileSystem). IsIn (maps_of x) m) k.1 h)))
      (λ k. ⊎_elim
      (λ l. inr (p.owner, p.system, P.owner_at, of_owner (subst (λ (x : FileSystem). IsIn (maps_of x) m) l.1 h)))
      (λ l. inr (q, s, l.1, h))
      (put_cases ss p.owner (demoted p) q s k.1))
      (put_cases mid name (promoted p) q s at)
    where
      of_owner : IsIn (maps_of (demoted p)) m → IsIn (maps_of p.system) m
      of_owner h = ⊎_elim inl (λ k. let u = in_map at_map (snaps_after p.system p.origin.group) m k in in_owner u.0 m (was_later u.0 u.1) u.2) h

      of_clone : IsIn (maps_of (promoted p)) m → (other : Name) × (u : FileSystem) × (get ss other ≡ Some u) × IsIn (maps_of u) m
      of_clone h = ⊎_elim
          (λ k. (name, p.clone, P.clone_at, inl k))
          (λ k.
          let u = in_map at_map (promoted_snaps p ++ p.clone.snaps) m k in
          ⊎_elim
          (λ i. (p.owner, p.system, P.owner_at, in_owner u.0 m (was_promoted u.0 i) u.2))
          (λ i. (name, p.clone, P.clone_at, inr (subst (λ y. IsIn (map at_map p.clone.snaps) y) (sym u.2) (map_in at_map p.clone.snaps u.0 i))))
          (in_either (promoted_snaps p) p.clone.snaps u.0 u.1))
          h

  -- promote changes `prev` of no dataset
  pub promote_previous : (d : Dataset) → IsThere w d → previous_of (after_promotion w name p) d ≡ previous_of w d
  promote_previous d there =
      let r = there_row w w.group lines d there in
      snapped_once _ _ (sym (row_prev new w.group promote_systems.lines d r.0 ((both.1 d r.0).0 r.1)).0 ∙ (row_prev w w.group lines d r.0 r.1).0)
    where
      same_some : (a b : SnapId) → Some (Snapped a) ≡ Some (Snapped b) → a ≡ b
      same_some a b e = cc

      no_some : (a : SnapId) → None ≡ Some (Snapped a) → ⊥
      no_some a e = cc

      snapped_once : (x y : Option SnapId) → option_map Snapped x ≡ option_map Snapped y → x ≡ y
      snapped_once None None e = refl
      snapped_once None (Some b) e = absurd (no_some b e)
      snapped_once (Some a) None e = absurd (no_some a (sym e))
      snapped_once (Some a) (Some b) e = ap Some (same_some a b e)

  -- no snapshot is missing
  pub promote_there : AreSnapsIn w.file_systems (insert (insert w.file_systems p.owner (demoted p)) name (promoted p))
  promote_there q e u at h = ⊎_elim
      (λ (same : q ≡ p.owner).
      let of_owner : IsIn (older ++ t ∷ newer) u = subst (λ l. IsIn l u) (ap (λ (x : FileSystem). x.snaps) (same_value e p.system (sym at ∙ ap (get ss) same ∙ P.owner_at)) ∙ snaps_are) h in
      ⊎_elim
      (λ k. moved (in_left older (t ∷ []) u k))
      (λ k. ⊎_elim
      (λ (x : u ≡ t). moved (in_right older (t ∷ []) u (inl x)))
      (λ x. (p.owner, demoted p, u, put_other mid name (promoted p) p.owner (λ i. other (sym i)) ∙ put_here ss p.owner (demoted p), subst (λ l. IsIn l u) (sym later) x, refl))
      k)
      (in_either older (t ∷ newer) u of_owner))
      (λ (ng : ¬ (q ≡ p.owner)). ⊎_elim
      (λ (same : q ≡ name).
      (name, promoted p, u, put_here mid name (promoted p), in_right (promoted_snaps p) p.clone.snaps u (subst (λ (x : FileSystem). IsIn x.snaps u) (same_value e p.clone (sym at ∙ ap (get ss) same ∙ P.clone_at)) h), refl))
      (λ (nc : ¬ (q ≡ name)). (q, e, u, put_other mid name (promoted p) q nc ∙ put_other ss p.owner (demoted p) q ng ∙ at, h, refl))
      (key_cases name_order q name))
      (key_cases name_order q p.owner)
    where
      moved : IsIn (older ++ t ∷ []) u → (r : Name) × (f : FileSystem) × (v : Snap) × (get (insert (insert w.file_systems p.owner (demoted p)) name (promoted p)) r ≡ Some f) × IsIn f.snaps v × (id_of v ≡ id_of u)
      moved k = (name, promoted p, u, put_here mid name (promoted p), in_left (promoted_snaps p) p.clone.snaps u (subst (λ l. IsIn l u) (sym upto) k), refl)

  -- nothing is lost
  pub promote_union : union_of (after_promotion w name p) ≡ union_of w
  promote_union = same_members o _ _
      (union_from w (after_promotion w name p) w.group lines from)
      (λ b h. let r = (union_is w w.group lines).reached b h in (union_is new w.group promote_systems.lines).within r.0 r.1 b ((both.1 r.0 r.1).0 r.2) r.3)

  -- what holds of a world holds again
  module _ (size : ℕ) (whole : IsWorld size w) where
    pub promote_world : IsWorld size (after_promotion w name p)
    promote_world = world_same size w (after_promotion w name p) whole from promote_systems refl

    pub promote_pairs : (last : World) → ArePaired size w last → ArePaired size (after_promotion w name p) last
    promote_pairs last = pair_same size w (after_promotion w name p) whole from last refl (omega arith)
