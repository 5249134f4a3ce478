-- A promote leaves what stands before each dataset, and its map.
use Rattle.std.proofs.Common.{◌≡◌, ℕ, zero, suc, ◌<◌, ◌≤◌, List, [], ◌∷◌, ◌++◌, Some, refl, sym, ap, subst, ◌∙◌, ⊎_elim, arith}
use Rattle.std.specs.Prelude.{nat_le, nat_lt}
use Rattle.std.specs.List.{filter}
use Rattle.std.specs.FinMap.{get, insert}
use Rattle.std.specs.FinMap as finmap
use Rattle.base.specs.declared.number.Key.{Key}
use Rattle.base.specs.Key.{parent}
use Rattle.base.specs.Map.{Map, Cell}
use Rattle.base.specs.Surveys.{IsIn}
use Rattle.model.specs.World.{World, FileSystem, Snap, SnapId, Dataset, Live, Snapped, id_of, snap_at, map_of, previous_of, newest_or_origin}
use Rattle.model.specs.State.{Views}
use Rattle.model.specs.requests.Promote.{Promotion, promotion_of, promoted_snaps, promoted, demoted, after_promotion}
use Rattle.model.specs.requests.Rollback.{snaps_after}
use Rattle.world.specs.Dead.{IsThere, group_of, next_in}
use Rattle.world.specs.Shapes.{Name, name_order, view_order}
use Rattle.world.specs.Worlds.{AreRising, FileSystems}
use Rattle.world.proofs.lineage.Bridge.{from_snap_at, map_of_live, map_of_found, rising_above, rising_after}
use Rattle.world.proofs.lists.Finding.{from_filter, in_either}
use Rattle.world.proofs.lists.Maps.{same_value, key_cases, get-insert_same}
use Rattle.world.proofs.changes.Promotions.{IsPromotion, promotion_is, split_at, append_assoc, upto_is, after_is}
use Rattle.world.proofs.lineage.Put.{put_here, put_other, put_cases}
use Rattle.world.proofs.views.Viewed.{IsSafe, kept_of, found_after}
use Rattle.world.proofs.views.ViewedClones.{promoted_safe}
use Rattle.world.proofs.views.ViewedSteps.{viewed}
use Rattle.laws.specs.Lineages.{IsBefore, SharesUntil, origin_group, IsOrdered, HasLineages, HasBirths}
use Rattle.laws.specs.Bookmarks.{IsSource}
use Rattle.laws.proofs.Lineages.{place, cell_there, found, prev_next, prev_there}
use Rattle.laws.proofs.Rising.{same_newest, rising_front, rising_joined, two_splits}

module _ (w : World) (o : IsOrdered w) (name : Name) (p : Promotion) (is : promotion_of w name ≡ Some p) where
  abbrev P : IsPromotion w name p
  P = promotion_is w name p is

  abbrev after : World
  after = after_promotion w name p

  abbrev mid : FileSystems
  mid = insert w.file_systems p.owner (demoted p)

  -- ---- the snapshot between the two

  t : Snap
  t = (promotion_is w name p is).origin

  t_in : IsIn p.system.snaps t × (id_of t ≡ p.origin)
  unfolding t
  t_in =
      let k = from_snap_at w p.origin (p.owner, P.origin) P.found in
      (subst (λ (x : FileSystem). IsIn x.snaps P.origin) (same_value k.0 p.system (sym k.1 ∙ P.owner_at)) k.2, k.3)

  group_is : t.group ≡ p.origin.group
  group_is = ap (λ (x : SnapId). x.group) t_in.1

  older : List Snap
  older = (split_at p.system.snaps t t_in.0).0

  newer : List Snap
  newer = (split_at p.system.snaps t t_in.0).1

  owned : p.system.snaps ≡ older ++ t ∷ newer
  unfolding older newer
  owned = (split_at p.system.snaps t t_in.0).2

  owned_in_two : p.system.snaps ≡ (older ++ t ∷ []) ++ newer
  owned_in_two = owned ∙ sym (append_assoc older (t ∷ []) newer)

  up : AreRising (origin_group p.system.origin) (older ++ t ∷ newer)
  up = subst (AreRising (origin_group p.system.origin)) owned (o.rising p.owner p.system P.owner_at)

  up_clone : AreRising t.group p.clone.snaps
  up_clone = subst (λ n. AreRising n p.clone.snaps) (ap origin_group P.origin_is ∙ sym group_is) (o.rising name p.clone P.clone_at)

  promoted_is : promoted_snaps p ≡ older ++ t ∷ []
  promoted_is =
      ap (λ n. filter (λ (u : Snap). nat_le u.group n) p.system.snaps) (sym group_is)
      ∙ ap (filter (λ (u : Snap). nat_le u.group t.group)) owned ∙ upto_is (origin_group p.system.origin) older t newer up

  demoted_is : snaps_after p.system p.origin.group ≡ newer
  demoted_is =
      ap (λ n. filter (λ (u : Snap). nat_lt n u.group) p.system.snaps) (sym group_is)
      ∙ ap (filter (λ (u : Snap). nat_lt t.group u.group)) owned ∙ after_is (origin_group p.system.origin) older t newer up

  -- a file system doesn't own its origin
  other : ¬ (p.owner ≡ name)
  other e =
      let one = same_value p.system p.clone (sym P.owner_at ∙ ap (get w.file_systems) e ∙ P.clone_at) in
      let l = rising_above t.group p.clone.snaps t up_clone (subst (λ (x : FileSystem). IsIn x.snaps t) one t_in.0) in
      absurd (omega arith)

  -- ---- the two file systems

  name_at : get (after_promotion w name p).file_systems name ≡ Some (promoted p)
  name_at = put_here mid name (promoted p)

  owner_at : get (after_promotion w name p).file_systems p.owner ≡ Some (demoted p)
  owner_at = put_other mid name (promoted p) p.owner other ∙ put_here w.file_systems p.owner (demoted p)

  other_at : (q : Name) → ¬ (q ≡ name) → ¬ (q ≡ p.owner) → get (after_promotion w name p).file_systems q ≡ get w.file_systems q
  other_at q a b = put_other mid name (promoted p) q a ∙ put_other w.file_systems p.owner (demoted p) q b

  -- a file system of the world after it is one of the two, or an earlier one
  data Which (q : Name) (f : FileSystem) : Type 0 where
    the_clone : q ≡ name → f ≡ promoted p → Which q f
    the_owner : q ≡ p.owner → f ≡ demoted p → Which q f
    another : get w.file_systems q ≡ Some f → Which q f

  which : (q : Name) (f : FileSystem) → get (after_promotion w name p).file_systems q ≡ Some f → Which q f
  which q f at = ⊎_elim
      (λ (k : (q ≡ name) × (f ≡ promoted p)). the_clone k.0 k.1)
      (λ (k : (¬ (q ≡ name)) × (get mid q ≡ Some f)). ⊎_elim
      (λ (l : (q ≡ p.owner) × (f ≡ demoted p)). the_owner l.0 l.1)
      (λ (l : (¬ (q ≡ p.owner)) × (get w.file_systems q ≡ Some f)). another l.1)
      (put_cases w.file_systems p.owner (demoted p) q f k.1))
      (put_cases mid name (promoted p) q f at)

  -- each file system is there, with its live map
  pub live_turned : (q : Name) (f : FileSystem) → get w.file_systems q ≡ Some f
      → (e : FileSystem) × (get (after_promotion w name p).file_systems q ≡ Some e) × (e.live ≡ f.live)
  live_turned q f at = ⊎_elim
      (λ (same : q ≡ name).
      let one = same_value p.clone f (sym P.clone_at ∙ ap (get w.file_systems) (sym same) ∙ at) in
      (promoted p, ap (get after.file_systems) same ∙ name_at, ap (λ (x : FileSystem). x.live) one))
      (λ (ne : ¬ (q ≡ name)). ⊎_elim
      (λ (same : q ≡ p.owner).
      let one = same_value p.system f (sym P.owner_at ∙ ap (get w.file_systems) (sym same) ∙ at) in
      (demoted p, ap (get after.file_systems) same ∙ owner_at, ap (λ (x : FileSystem). x.live) one))
      (λ (no : ¬ (q ≡ p.owner)). (f, other_at q ne no ∙ at, refl))
      (key_cases name_order q p.owner))
      (key_cases name_order q name)

  -- each snapshot is there, as it was
  snap_turned : (id : SnapId) (q : Name × Snap) → snap_at w id ≡ Some q
      → (r : Name × Snap) × (snap_at (after_promotion w name p) id ≡ Some r) × (kept_of r.1 ≡ kept_of q.1)
  snap_turned id q e =
      let views : Views = insert finmap.empty 0 id in
      found_after views w after (promoted_safe w name p is views o.once o.closed) id (viewed views 0 id (get-insert_same view_order finmap.empty 0 id)) q e

  there_on : (id : SnapId) → IsThere w (Snapped id) → IsThere (after_promotion w name p) (Snapped id)
  there_on id (q, f, u, at, h, ids) =
      let k = snap_turned id (q, u) (found w o q f u id at h ids) in
      let r = from_snap_at after id k.0 k.1 in
      (k.0.0, r.0, k.0.1, r.1, r.2, r.3)

  there_back : (d : Dataset) → IsThere (after_promotion w name p) d → IsThere w d
  there_back (Live q) (f, at) = by_which (which q f at)
    where
      by_which : Which q f → IsThere w (Live q)
      by_which (the_clone e k) = (p.clone, ap (get w.file_systems) e ∙ P.clone_at)
      by_which (the_owner e k) = (p.system, ap (get w.file_systems) e ∙ P.owner_at)
      by_which (another at) = (f, at)
  there_back (Snapped id) (q, f, u, at, h, ids) = by_which (which q f at)
    where
      by_which : Which q f → IsThere w (Snapped id)
      by_which (the_clone e k) = ⊎_elim
          (λ i. (p.owner, p.system, u, P.owner_at, (from_filter (λ (u : Snap). nat_le u.group p.origin.group) p.system.snaps u i).0, ids))
          (λ i. (name, p.clone, u, P.clone_at, i, ids))
          (in_either (promoted_snaps p) p.clone.snaps u (subst (λ (x : FileSystem). IsIn x.snaps u) k h))
      by_which (the_owner e k) =
          (p.owner, p.system, u, P.owner_at, (from_filter (λ (u : Snap). nat_lt p.origin.group u.group) p.system.snaps u (subst (λ (x : FileSystem). IsIn x.snaps u) k h)).0, ids)
      by_which (another at) = (q, f, u, at, h, ids)

  -- ---- the order

  rising_turned : (q : Name) (f : FileSystem) → Which q f → AreRising (origin_group f.origin) f.snaps
  rising_turned q f (the_clone e k) = subst (λ (x : FileSystem). AreRising (origin_group x.origin) x.snaps) (sym k)
      (subst (λ l. AreRising (origin_group p.system.origin) (l ++ p.clone.snaps)) (sym promoted_is)
      (rising_joined (origin_group p.system.origin) older t p.clone.snaps
      (rising_front (origin_group p.system.origin) (older ++ t ∷ []) newer (subst (AreRising (origin_group p.system.origin)) (sym (append_assoc older (t ∷ []) newer)) up)) up_clone))
  rising_turned q f (the_owner e k) = subst (λ (x : FileSystem). AreRising (origin_group x.origin) x.snaps) (sym k)
      (subst (AreRising p.origin.group) (sym demoted_is)
      (subst (λ n. AreRising n newer) group_is (rising_after (origin_group p.system.origin) older t newer up)))
  rising_turned q f (another at) = o.rising q f at

  origins_turned : (q : Name) (f : FileSystem) (id : SnapId) → Which q f → f.origin ≡ Some id → IsThere w (Snapped id)
  origins_turned q f id (the_clone e k) i = o.origins p.owner p.system id P.owner_at (ap (λ (x : FileSystem). x.origin) (sym k) ∙ i)
  origins_turned q f id (the_owner e k) i =
      let same = same_value p.origin id (ap (λ (x : FileSystem). x.origin) (sym k) ∙ i) in
      subst (λ y. IsThere w (Snapped y)) same (o.origins name p.clone p.origin P.clone_at P.origin_is)
  origins_turned q f id (another at) i = o.origins q f id at i

  pub turned_ordered : IsOrdered (after_promotion w name p)
  turned_ordered = record {
    once = safe.once;
    closed = safe.closed;
    marks = λ q mark f b at h. by_which q mark f b (which q f at) h;
    rising = λ q f at. rising_turned q f (which q f at);
    origins = λ q f id at i. there_on id (origins_turned q f id (which q f at) i);
    begun = o.begun;
  }
    where
      safe : IsSafe finmap.empty w (after_promotion w name p)
      safe = promoted_safe w name p is finmap.empty o.once o.closed

      by_which : (q mark : Name) (f : FileSystem) (b : _) → Which q f → get f.bookmarks mark ≡ Some b → b.group < w.group
      by_which q mark f b (the_clone e k) h = o.marks name mark p.clone b P.clone_at (ap (λ (x : FileSystem). get x.bookmarks mark) (sym k) ∙ h)
      by_which q mark f b (the_owner e k) h = o.marks p.owner mark p.system b P.owner_at (ap (λ (x : FileSystem). get x.bookmarks mark) (sym k) ∙ h)
      by_which q mark f b (another at) h = o.marks q mark f b at h

  -- ---- what stands before

  joined_is : (promoted p).snaps ≡ (older ++ t ∷ []) ++ p.clone.snaps
  joined_is = ap (λ l. l ++ p.clone.snaps) promoted_is

  -- the clone's datasets
  clone_prev : (xs ys : List Snap) → p.clone.snaps ≡ xs ++ ys → previous_of (after_promotion w name p) (next_in name ys) ≡ newest_or_origin p.clone xs
  clone_prev xs ys split =
      prev_next after turned_ordered name (promoted p) name_at ((older ++ t ∷ []) ++ xs) ys
      (joined_is ∙ ap (λ l. (older ++ t ∷ []) ++ l) split ∙ sym (append_assoc (older ++ t ∷ []) xs ys))
      ∙ same_newest older t xs p.system.origin p.clone.origin (P.origin_is ∙ ap Some (sym t_in.1))

  -- the owner's
  owner_prev : (xs ys : List Snap) → p.system.snaps ≡ xs ++ ys → previous_of (after_promotion w name p) (next_in p.owner ys) ≡ newest_or_origin p.system xs
  owner_prev xs ys split = ⊎_elim
      (λ (m, front, back).
      prev_next after turned_ordered p.owner (demoted p) owner_at m ys (demoted_is ∙ back)
      ∙ sym (same_newest older t m p.system.origin (Some p.origin) (ap Some (sym t_in.1)))
      ∙ ap (newest_or_origin p.system) (sym front))
      (λ (x, m, front, back).
      ap (λ l. previous_of after (next_in p.owner l)) back
      ∙ prev_next after turned_ordered name (promoted p) name_at xs (x ∷ (m ++ p.clone.snaps))
      (joined_is ∙ ap (λ l. l ++ p.clone.snaps) front ∙ append_assoc xs (x ∷ m) p.clone.snaps))
      (two_splits (older ++ t ∷ []) newer xs ys (sym owned_in_two ∙ split))

  turned_prev : (d : Dataset) → IsThere w d → previous_of (after_promotion w name p) d ≡ previous_of w d
  turned_prev d there =
      let k = place w d there in
      ap (previous_of after) k.is
      ∙ next k.name k.system k.at k.older k.newer k.snaps_are
      ∙ sym (prev_next w o k.name k.system k.at k.older k.newer k.snaps_are)
      ∙ ap (previous_of w) (sym k.is)
    where
      next : (q : Name) (f : FileSystem) → get w.file_systems q ≡ Some f → (xs ys : List Snap) → f.snaps ≡ xs ++ ys
          → previous_of (after_promotion w name p) (next_in q ys) ≡ newest_or_origin f xs
      next q f at xs ys split = ⊎_elim
          (λ (same : q ≡ name).
          let one = same_value f p.clone (sym at ∙ ap (get w.file_systems) same ∙ P.clone_at) in
          ap (λ y. previous_of after (next_in y ys)) same ∙ clone_prev xs ys (ap (λ (x : FileSystem). x.snaps) (sym one) ∙ split)
          ∙ ap (λ x. newest_or_origin x xs) (sym one))
          (λ (ne : ¬ (q ≡ name)). ⊎_elim
          (λ (same : q ≡ p.owner).
          let one = same_value f p.system (sym at ∙ ap (get w.file_systems) same ∙ P.owner_at) in
          ap (λ y. previous_of after (next_in y ys)) same ∙ owner_prev xs ys (ap (λ (x : FileSystem). x.snaps) (sym one) ∙ split)
          ∙ ap (λ x. newest_or_origin x xs) (sym one))
          (λ (no : ¬ (q ≡ p.owner)). prev_next after turned_ordered q f (other_at q ne no ∙ at) xs ys split)
          (key_cases name_order q p.owner))
          (key_cases name_order q name)

  turned_chain : (k : ℕ) (d e : Dataset) → IsThere w d → IsBefore (after_promotion w name p) k d e → IsBefore w k d e × IsThere w e
  turned_chain zero d e there a = (a, subst (IsThere w) a there)
  turned_chain (suc k) d e there (id, prev, a) =
      let before : previous_of w d ≡ Some id = sym (turned_prev d there) ∙ prev in
      let r = turned_chain k (Snapped id) e (prev_there w o d there id before) a in
      ((id, before, r.0), r.1)

  -- ---- maps

  turned_map : (d : Dataset) → IsThere w d → map_of (after_promotion w name p) d ≡ map_of w d
  turned_map (Live q) there = let k = live_turned q there.0 there.1 in map_of_live after q k.0 k.1 ∙ k.2 ∙ sym (map_of_live w q there.0 there.1)
  turned_map (Snapped id) there =
      let at = found w o there.0 there.1 there.2 id there.3 there.4 there.5 in
      let k = snap_turned id (there.0, there.2) at in
      map_of_found after id k.0 k.1 ∙ ap (λ x. x.1) k.2 ∙ sym (map_of_found w id (there.0, there.2) at)

  -- so what served as a source serves so
  pub turned_source : (q : Name) (f : FileSystem) → get w.file_systems q ≡ Some f → (group : ℕ) (held : Map) → IsSource w q group held
      → IsSource (after_promotion w name p) q group held
  turned_source q f at group held source k d before l =
      let r = turned_chain k (Live q) d (f, at) before in
      subst (SharesUntil group held) (sym (turned_map d r.1)) (source k d r.0 (subst (λ y. group ≤ y) (same_group d) l))
    where
      same_group : (d : Dataset) → group_of (after_promotion w name p) d ≡ group_of w d
      same_group (Live q) = refl
      same_group (Snapped id) = refl

  -- and lineages go on
  pub turned_lineages : HasLineages w → HasLineages (after_promotion w name p)
  turned_lineages lines = record {
    order = turned_ordered;
    shares = λ d id there e.
        let was = there_back d there in
        let before = sym (turned_prev d was) ∙ e in
        let shares = lines.shares d id was before in
        subst (λ m. SharesUntil id.group m (map_of after d)) (sym (turned_map (Snapped id) (prev_there w o d was id before)))
        (subst (SharesUntil id.group (map_of w (Snapped id))) (sym (turned_map d was)) shares);
  }

  -- so do births
  pub turned_births : HasBirths w → HasBirths (after_promotion w name p)
  turned_births births = record {
    born = λ d k c h. births.born d k c (was d k c h);
    rise = λ d k c q h i. births.rise d k c q (was d k c h) (was d (parent k) q i);
  }
    where
      was : (d : Dataset) (k : Key) (c : Cell) → get (map_of (after_promotion w name p) d) k ≡ Some c → get (map_of w d) k ≡ Some c
      was d k c h = ap (λ m. get m k) (sym (turned_map d (there_back d (cell_there after d k c h)))) ∙ h

  -- each snapshot that is there was there, with its map
  pub turned_kept : (id : SnapId) → IsThere (after_promotion w name p) (Snapped id)
      → IsThere w (Snapped id) × (map_of (after_promotion w name p) (Snapped id) ≡ map_of w (Snapped id))
  turned_kept id there = let was = there_back (Snapped id) there in (was, turned_map (Snapped id) was)
