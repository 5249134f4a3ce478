-- What stands before a dataset: the snapshots of its file system that are older, its origin, and what stands before that.
use Rattle.std.proofs.Common.{◌≡◌, ℕ, zero, suc, ◌<◌, ◌≤◌, List, [], ◌∷◌, ◌++◌, Option, Some, None, refl, sym, ap, subst, ◌∙◌, ◌⊎◌, inl, inr, ⊎_elim, arith}
use Rattle.std.specs.Prelude.{IsTrue, nat_lt}
use Rattle.std.specs.List.{filter, last_or}
use Rattle.std.specs.Option.{option_map, option_or, option_and_then}
use Rattle.std.specs.FinMap.{get, get-empty}
use Rattle.std.proofs.lemmas.Bool.{lt-ltb, ltb-true}
use Rattle.base.specs.declared.number.Key.{Key}
use Rattle.base.specs.Key.{key_cmp, is_at_or_below}
use Rattle.base.specs.Map.{Map, Cell}
use Rattle.base.specs.Surveys.{IsIn}
use Rattle.model.specs.World.{World, FileSystem, Snap, SnapId, Dataset, Live, Snapped, id_of, snap_at, map_of, previous_of, newest_or_origin, snaps_before}
use Rattle.world.specs.Dead.{IsThere, group_of, next_in}
use Rattle.world.specs.Shapes.{Name}
use Rattle.world.specs.Worlds.{AreRising}
use Rattle.world.proofs.lineage.Bridge.{from_snap_at, map_of_gone, map_of_absent, map_of_found, in_middle, rising_above, rising_below, rising_after}
use Rattle.world.proofs.lists.Finding.{append_none, filter_front, in_left}
use Rattle.world.proofs.lists.Maps.{same_value, no_value}
use Rattle.world.proofs.changes.Promotions.{split_at, append_assoc}
use Rattle.world.proofs.views.Viewed.{snap_found}
use Rattle.laws.specs.Lineages.{IsBefore, SharesUntil, origin_group, IsOrdered, HasLineages}
use Rattle.laws.specs.Bookmarks.{IsSource}
use Rattle.laws.proofs.Keys.{itself_below}
use Rattle.laws.proofs.Rising.{last_in, last_added}

-- one lineage after another
pub then_on : (w : World) (j k : ℕ) (a b c : Dataset) → IsBefore w j a b → IsBefore w k b c → (i : ℕ) × IsBefore w i a c
then_on w zero k a b c h r = (k, subst (λ y. IsBefore w k y c) (sym h) r)
then_on w (suc j) k a b c (id, is, h) r = let x = then_on w j k (Snapped id) b c h r in (suc x.0, (id, is, x.1))

-- one place back
pub one_back : (w : World) (d : Dataset) (id : SnapId) → previous_of w d ≡ Some id → IsBefore w (suc zero) d (Snapped id)
one_back w d id is = (id, is, refl)

-- a dataset in its file system: what is older there, and what comes from it on
pub record IsPlaced (w : World) (d : Dataset) : Type 0 where
  pub name : Name
  pub system : FileSystem
  pub at : get w.file_systems name ≡ Some system
  pub older : List Snap
  pub newer : List Snap
  pub snaps_are : system.snaps ≡ older ++ newer
  pub is : d ≡ next_in name newer

-- each that is there has a place
pub place : (w : World) (d : Dataset) → IsThere w d → IsPlaced w d
place w (Live name) (f, at) = record { name = name; system = f; at = at; older = f.snaps; newer = []; snaps_are = sym (append_none f.snaps); is = refl }
place w (Snapped id) (name, f, t, at, h, ids) =
    let l = split_at f.snaps t h in
    record { name = name; system = f; at = at; older = l.0; newer = t ∷ l.1; snaps_are = l.2; is = ap Snapped (sym ids) }

pub live_or_snap : (name : Name) (id : SnapId) → Live name ≡ Snapped id → ⊥
live_or_snap name id e = cc

-- a dataset that has a block is there
pub cell_there : (w : World) (d : Dataset) (k : Key) (c : Cell) → get (map_of w d) k ≡ Some c → IsThere w d
cell_there w (Live name) k c h = by_system (get w.file_systems name) refl
  where
    by_system : (x : Option FileSystem) → get w.file_systems name ≡ x → IsThere w (Live name)
    by_system None e = absurd (no_value c (sym (get-empty key_cmp k) ∙ ap (λ m. get m k) (sym (map_of_gone w name e)) ∙ h))
    by_system (Some f) e = (f, e)
cell_there w (Snapped id) k c h = by_snap (snap_at w id) refl
  where
    by_snap : (x : Option (Name × Snap)) → snap_at w id ≡ x → IsThere w (Snapped id)
    by_snap None e = absurd (no_value c (sym (get-empty key_cmp k) ∙ ap (λ m. get m k) (sym (map_of_absent w id e)) ∙ h))
    by_snap (Some p) e = let r = from_snap_at w id p e in (p.0, r.0, p.1, r.1, r.2, r.3)

module _ (w : World) (o : IsOrdered w) where
  pub found : (name : Name) (f : FileSystem) (t : Snap) (id : SnapId) → get w.file_systems name ≡ Some f → IsIn f.snaps t → id_of t ≡ id → snap_at w id ≡ Some (name, t)
  found name f t id at h is = snap_found w o.once name t id (f, at, h) is

  pub kept_map : (name : Name) (f : FileSystem) (t : Snap) (id : SnapId) → get w.file_systems name ≡ Some f → IsIn f.snaps t → id_of t ≡ id → map_of w (Snapped id) ≡ t.map
  kept_map name f t id at h is = map_of_found w id (name, t) (found name f t id at h is)

  -- ---- one file system

  module _ (name : Name) (f : FileSystem) (at : get w.file_systems name ≡ Some f) where
    pub rises : (older newer : List Snap) → f.snaps ≡ older ++ newer → AreRising (origin_group f.origin) (older ++ newer)
    rises older newer is = subst (AreRising (origin_group f.origin)) is (o.rising name f at)

    -- what stands before what comes after some of the snapshots
    pub prev_next : (older newer : List Snap) → f.snaps ≡ older ++ newer → previous_of w (next_in name newer) ≡ newest_or_origin f older
    unfolding previous_of
    prev_next older [] is = ap (option_and_then (λ (s : FileSystem). newest_or_origin s s.snaps)) at ∙ ap (newest_or_origin f) (is ∙ append_none older)
    prev_next older (t ∷ ts) is =
        let h : IsIn f.snaps t = subst (λ l. IsIn l t) (sym is) (in_middle older t ts) in
        let up = rises older (t ∷ ts) is in
        ap (option_and_then (λ (p : Name × Snap). option_and_then (λ (s : FileSystem). newest_or_origin s (snaps_before s t.group)) (get w.file_systems p.0))) (found name f t (id_of t) at h refl)
        ∙ ap (option_and_then (λ (s : FileSystem). newest_or_origin s (snaps_before s t.group))) at
        ∙ ap (newest_or_origin f) (ap (filter (λ (u : Snap). nat_lt u.group t.group)) is
        ∙ filter_front (λ (u : Snap). nat_lt u.group t.group) older (t ∷ ts)
        (λ u i. lt-ltb u.group t.group (rising_below _ older t ts up u i))
        (λ u i e. let l = ltb-true u.group t.group e in ⊎_elim
        (λ (k : u ≡ t). let z : u.group ≡ t.group = ap (λ (y : Snap). y.group) k in absurd (omega arith))
        (λ k. let z = rising_above t.group ts u (rising_after _ older t ts up) k in absurd (omega arith)) i))

    -- what comes after a snapshot has it before: next to it, or further on
    reach_next : (pre : List Snap) (v : Snap) (newer : List Snap) → f.snaps ≡ pre ++ v ∷ newer → IsBefore w (suc zero) (next_in name newer) (Snapped (id_of v))
    reach_next pre v newer is = one_back w (next_in name newer) (id_of v)
        (prev_next (pre ++ v ∷ []) newer (is ∙ sym (append_assoc pre (v ∷ []) newer)) ∙ ap (λ x. option_or (option_map id_of x) f.origin) (last_added pre None v))

    pub reach_own : (pre : List Snap) (v : Snap) (mid newer : List Snap) → f.snaps ≡ pre ++ v ∷ (mid ++ newer)
        → (k : ℕ) × IsBefore w k (next_in name newer) (Snapped (id_of v))
    reach_own pre v [] newer is = (suc zero, reach_next pre v newer is)
    reach_own pre v (y ∷ ys) newer is =
        let r = reach_own (pre ++ v ∷ []) y ys newer (is ∙ sym (append_assoc pre (v ∷ []) (y ∷ (ys ++ newer)))) in
        then_on w r.0 (suc zero) (next_in name newer) (Snapped (id_of y)) (Snapped (id_of v)) r.1 (reach_next pre v (y ∷ (ys ++ newer)) is)

    pub reach_older : (older newer : List Snap) → f.snaps ≡ older ++ newer → (v : Snap) → IsIn older v → (k : ℕ) × IsBefore w k (next_in name newer) (Snapped (id_of v))
    reach_older older newer is v h =
        let l = split_at older v h in
        reach_own l.0 v l.1 newer (is ∙ ap (λ y. y ++ newer) l.2 ∙ append_assoc l.0 (v ∷ l.1) newer)

    -- its origin stands before each of its datasets
    pub reach_origin : (older newer : List Snap) → f.snaps ≡ older ++ newer → (id : SnapId) → f.origin ≡ Some id
        → (k : ℕ) × IsBefore w k (next_in name newer) (Snapped id)
    reach_origin [] newer is id e = (suc zero, one_back w (next_in name newer) id (prev_next [] newer is ∙ e))
    reach_origin (v ∷ mid) newer is id e =
        let r = reach_own [] v mid newer is in
        then_on w r.0 (suc zero) (next_in name newer) (Snapped (id_of v)) (Snapped id) r.1 (one_back w (Snapped (id_of v)) id (prev_next [] (v ∷ (mid ++ newer)) is ∙ e))

    -- what stands right before is the origin or an older snapshot
    pub by_prev : (older newer : List Snap) → f.snaps ≡ older ++ newer → (id : SnapId) → previous_of w (next_in name newer) ≡ Some id
        → (f.origin ≡ Some id) ⊎ ((u : Snap) × IsIn older u × (id ≡ id_of u))
    by_prev older newer is id e = by_last (last_or None older) refl (sym (prev_next older newer is) ∙ e)
      where
        by_last : (x : Option Snap) → last_or None older ≡ x → option_or (option_map id_of x) f.origin ≡ Some id
            → (f.origin ≡ Some id) ⊎ ((u : Snap) × IsIn older u × (id ≡ id_of u))
        by_last None i k = inl k
        by_last (Some u) i k = inr (u, ⊎_elim (λ n. absurd (no_value u n)) (λ h. h) (last_in older None u i), sym (same_value (id_of u) id k))

    -- a snapshot of a lower group than another of the file system is older
    pub older_than : (older : List Snap) (t : Snap) (newer : List Snap) → f.snaps ≡ older ++ t ∷ newer → (v : Snap) → IsIn f.snaps v → v.group < t.group → IsIn older v
    older_than older t newer is v h l = by_part (in_parts older (t ∷ newer) v (subst (λ y. IsIn y v) is h))
      where
        in_parts : (xs ys : List Snap) (a : Snap) → IsIn (xs ++ ys) a → IsIn xs a ⊎ IsIn ys a
        in_parts [] ys a h = inr h
        in_parts (x ∷ xs) ys a h = ⊎_elim (λ k. inl (inl k)) (λ k. ⊎_elim (λ l. inl (inr l)) inr (in_parts xs ys a k)) h

        by_part : IsIn older v ⊎ ((v ≡ t) ⊎ IsIn newer v) → IsIn older v
        by_part (inl i) = i
        by_part (inr (inl e)) = let z : v.group ≡ t.group = ap (λ (y : Snap). y.group) e in absurd (omega arith)
        by_part (inr (inr i)) = let z = rising_above t.group newer v (rising_after _ older t newer (rises older (t ∷ newer) is)) i in absurd (omega arith)

  -- ---- groups fall

  -- the group of a snapshot that is there is closed
  pub there_closed : (id : SnapId) → IsThere w (Snapped id) → id.group < w.group
  there_closed id (name, f, t, at, h, ids) =
      let l = o.closed name t (f, at, h) in
      let e = ap (λ (x : SnapId). x.group) ids in
      omega arith

  -- what stands before a dataset is there
  pub prev_there : (d : Dataset) → IsThere w d → (id : SnapId) → previous_of w d ≡ Some id → IsThere w (Snapped id)
  prev_there d there id e =
      let p = place w d there in
      ⊎_elim
      (λ k. o.origins p.name p.system id p.at k)
      (λ (u, h, is). (p.name, p.system, u, p.at, subst (λ l. IsIn l u) (sym p.snaps_are) (in_left p.older p.newer u h), sym is))
      (by_prev p.name p.system p.at p.older p.newer p.snaps_are id (ap (previous_of w) (sym p.is) ∙ e))

  -- and of a lower group
  pub prev_lower : (d : Dataset) → IsThere w d → (id : SnapId) → previous_of w d ≡ Some id → id.group < group_of w d
  prev_lower d there id e =
      let p = place w d there in
      let k = by_prev p.name p.system p.at p.older p.newer p.snaps_are id (ap (previous_of w) (sym p.is) ∙ e) in
      subst (λ y. id.group < group_of w y) (sym p.is) (by_next p.name p.system p.at p.older p.newer p.snaps_are k (prev_there d there id e))
    where
      by_next : (name : Name) (f : FileSystem) → get w.file_systems name ≡ Some f → (older newer : List Snap) → f.snaps ≡ older ++ newer
          → (f.origin ≡ Some id) ⊎ ((u : Snap) × IsIn older u × (id ≡ id_of u)) → IsThere w (Snapped id) → id.group < group_of w (next_in name newer)
      by_next name f at older [] is k is_there = there_closed id is_there
      by_next name f at older (t ∷ ts) is (inl k) is_there =
          let up = subst (λ x. AreRising (origin_group x) (older ++ t ∷ ts)) k (rises name f at older (t ∷ ts) is) in
          rising_above id.group (older ++ t ∷ ts) t up (in_middle older t ts)
      by_next name f at older (t ∷ ts) is (inr (u, h, same)) is_there =
          let l = rising_below _ older t ts (rises name f at older (t ∷ ts) is) u h in
          let e = ap (λ (x : SnapId). x.group) same in
          omega arith

  -- so all along a lineage
  pub before_there : (k : ℕ) (d e : Dataset) → IsThere w d → IsBefore w k d e → IsThere w e
  before_there zero d e there is = subst (IsThere w) is there
  before_there (suc k) d e there (id, is, rest) = before_there k (Snapped id) e (prev_there d there id is) rest

  pub before_lower : (k : ℕ) (d e : Dataset) → IsThere w d → IsBefore w k d e → group_of w e ≤ group_of w d
  before_lower zero d e there is = subst (λ y. group_of w y ≤ group_of w d) is (omega arith)
  before_lower (suc k) d e there (id, is, rest) =
      let a = prev_lower d there id is in
      let b = before_lower k (Snapped id) e (prev_there d there id is) rest in
      omega arith

  -- what stands before a file system's live map: its datasets do
  pub live_reach : (name : Name) (f : FileSystem) → get w.file_systems name ≡ Some f → (older newer : List Snap) → f.snaps ≡ older ++ newer
      → (k : ℕ) × IsBefore w k (Live name) (next_in name newer)
  live_reach name f at older [] is = (zero, refl)
  live_reach name f at older (t ∷ ts) is =
      reach_own name f at older t ts [] (is ∙ ap (λ l. older ++ t ∷ l) (sym (append_none ts)))

-- ---- two datasets of one lineage

pub meet : (w : World) (j k : ℕ) (a d : Dataset) (id : SnapId) → IsBefore w j a (Snapped id) → IsBefore w k a d
    → ((i : ℕ) × IsBefore w i d (Snapped id)) ⊎ ((i : ℕ) × IsBefore w (suc i) (Snapped id) d)
meet w zero zero a d id h r = inl (zero, sym r ∙ h)
meet w (suc j) zero a d id h r = inl (suc j, subst (λ y. IsBefore w (suc j) y (Snapped id)) r h)
meet w zero (suc k) a d id h r = inr (k, subst (λ y. IsBefore w (suc k) y d) h r)
meet w (suc j) (suc k) a d id (p, is, h) (q, is', r) =
    let same = same_value q p (sym is' ∙ is) in
    meet w j k (Snapped p) d id h (subst (λ y. IsBefore w k (Snapped y) d) same r)

-- ---- maps

-- what is the same below a key is shared
pub through : (group : ℕ) (held m n : Map) → SharesUntil group held m → (key below : Key) (c : Cell)
    → ((q : Key) → IsTrue (is_at_or_below key q) → get m q ≡ get n q) → get n key ≡ Some c → c.birth ≤ group
    → IsTrue (is_at_or_below key below) → get held below ≡ get n below
through group held m n shares key below c same h born l = shares key below c (same key (itself_below key) ∙ h) born l ∙ same below l

module _ (w : World) (lines : HasLineages w) where
  -- what a dataset has from a group of its lineage and before, the snapshot of that group has
  shares_on : (i : ℕ) (d : Dataset) (id : SnapId) → IsThere w d → IsBefore w i d (Snapped id) → SharesUntil id.group (map_of w (Snapped id)) (map_of w d)
  shares_on zero d id there is key below c h born l = ap (λ y. get (map_of w y) below) (sym is)
  shares_on (suc i) d id there (p, is, rest) key below c h born l =
      let up = prev_there w lines.order d there p is in
      let low : id.group ≤ p.group = before_lower w lines.order i (Snapped p) (Snapped id) up rest in
      through id.group (map_of w (Snapped id)) (map_of w (Snapped p)) (map_of w d) (shares_on i (Snapped p) id up rest) key below c
      (λ q k. lines.shares d p there is key q c h (omega arith) k) h born l

  -- a snapshot of a lineage serves it as a source
  pub line_source : (name : Name) (f : FileSystem) → get w.file_systems name ≡ Some f → (j : ℕ) (id : SnapId) → IsBefore w j (Live name) (Snapped id)
      → IsSource w name id.group (map_of w (Snapped id))
  line_source name f at j id is k d before l = by_place (meet w j k (Live name) d id is before)
    where
      there : IsThere w d
      there = before_there w lines.order k (Live name) d (f, at) before

      by_place : ((i : ℕ) × IsBefore w i d (Snapped id)) ⊎ ((i : ℕ) × IsBefore w (suc i) (Snapped id) d) → SharesUntil id.group (map_of w (Snapped id)) (map_of w d)
      by_place (inl (i, r)) = shares_on i d id there r
      by_place (inr (i, (p, e, r))) =
          let own = before_there w lines.order j (Live name) (Snapped id) (f, at) is in
          let a = prev_lower w lines.order (Snapped id) own p e in
          let b = before_lower w lines.order i (Snapped p) d (prev_there w lines.order (Snapped id) own p e) r in
          absurd (omega arith)
