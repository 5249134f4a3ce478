-- What stands before a live map in a later world: what stood there in the world before, and snapshots of its own that were taken since.
use Rattle.std.proofs.Common.{◌≡◌, ℕ, zero, suc, ◌<◌, ◌≤◌, List, [], ◌∷◌, ◌++◌, Some, None, refl, sym, ap, subst, ◌∙◌, ◌⊎◌, inl, inr, ⊎_elim, arith}
use Rattle.std.specs.FinMap.{get}
use Rattle.base.specs.declared.number.Key.{Key}
use Rattle.base.specs.Map.{Cell}
use Rattle.base.specs.Surveys.{IsIn}
use Rattle.model.specs.World.{World, FileSystem, Snap, SnapId, Bookmark, Dataset, Live, Snapped, id_of, map_of, previous_of}
use Rattle.world.specs.Dead.{IsThere, group_of, next_in}
use Rattle.world.specs.RunLaws.{HasSnap}
use Rattle.world.specs.Shapes.{Name}
use Rattle.world.proofs.lineage.Bridge.{in_middle}
use Rattle.world.proofs.lists.Finding.{append_none, in_left}
use Rattle.world.proofs.lists.Maps.{no_value}
use Rattle.world.proofs.changes.Promotions.{split_at}
use Rattle.laws.specs.Lineages.{IsBefore, IsOrdered}
use Rattle.laws.proofs.Keys.{IsSameBelow}
use Rattle.laws.proofs.Lineages.{then_on, IsPlaced, place, live_or_snap, by_prev, reach_older, reach_origin, older_than, there_closed, prev_there, prev_lower, before_there}

-- no bookmark is of a later group than the snapshot, and no snapshot that was there
pub record IsNewest (g : ℕ) (v : Snap) (f : FileSystem) : Type 0 where
  pub marks : (at : List ℕ) (b : Bookmark) → get f.bookmarks at ≡ Some b → b.group ≤ v.group
  pub snaps : (u : Snap) → IsIn f.snaps u → (u.group ≤ v.group) ⊎ (u.group ≡ g)

-- What becomes of a file system in a step, where this group is open: its snapshots are earlier ones, in identity and map, or its live map
-- as it is; what its live map has it had, with all below, or is born in the open group, or the snapshot that is now its newest had it so
pub record WentOn (g : ℕ) (f later : FileSystem) : Type 0 where
  pub origin : later.origin ≡ f.origin
  pub snaps : (u : Snap) → IsIn later.snaps u
      → ((v : Snap) × IsIn f.snaps v × (id_of u ≡ id_of v) × (u.map ≡ v.map)) ⊎ ((u.group ≡ g) × (u.map ≡ later.live))
  pub live : (key : Key) (c : Cell) → get later.live key ≡ Some c
      → IsSameBelow key f.live later.live ⊎ (c.birth ≡ g) ⊎ ((v : Snap) × IsIn f.snaps v × IsNewest g v later × IsSameBelow key v.map later.live)

-- a file system that is made in a step: what it has its origin has, with all below, or is born in the open group, and all is where it has no
-- origin; and it has no snapshots but of that group and that map
pub record IsMade (w : World) (f : FileSystem) : Type 0 where
  pub snaps : (u : Snap) → IsIn f.snaps u → (u.group ≡ w.group) × (u.map ≡ f.live)
  pub live : (id : SnapId) → f.origin ≡ Some id
      → IsThere w (Snapped id) × ((key : Key) (c : Cell) → get f.live key ≡ Some c → IsSameBelow key (map_of w (Snapped id)) f.live ⊎ (c.birth ≡ w.group))
  pub young : f.origin ≡ None → (key : Key) (c : Cell) → get f.live key ≡ Some c → c.birth ≡ w.group

-- a file system of this name went on so, or is made
abbrev pub ComesFrom : World → Name → FileSystem → Type 0
ComesFrom w a f = ((e : FileSystem) × (get w.file_systems a ≡ Some e) × WentOn w.group e f) ⊎ ((get w.file_systems a ≡ None) × IsMade w f)

-- each file system did
abbrev pub IsLater : World → World → Type 0
IsLater w new = (a : Name) (f : FileSystem) → get new.file_systems a ≡ Some f → ComesFrom w a f

-- the live map itself, a snapshot of it that was taken since, or what stood before it
pub data Met (w new : World) (name : Name) (d : Dataset) : Type 0 where
  at_live : d ≡ Live name → Met w new name d
  taken : (u : Snap) → HasSnap new name u → u.group ≡ w.group → d ≡ Snapped (id_of u) → Met w new name d
  kept : (j : ℕ) (id : SnapId) → d ≡ Snapped id → IsBefore w j (Live name) (Snapped id) → Met w new name d

module _ (w new : World) (o : IsOrdered w) (o' : IsOrdered new) (later : IsLater w new) (name : Name) (x : FileSystem) (here : get w.file_systems name ≡ Some x) where
  kept_low : (j : ℕ) (id : SnapId) → IsBefore w j (Live name) (Snapped id) → id.group < w.group
  kept_low j id r = there_closed w o id (before_there w o j (Live name) (Snapped id) (x, here) r)

  -- where a dataset that stands before the live map stood, in the file system a: what is of a lower group there is older
  record Point (a : Name) (e : FileSystem) (d : Dataset) : Type 0 where
    older : List Snap
    newer : List Snap
    snaps_are : e.snaps ≡ older ++ newer
    places : ℕ
    reached : IsBefore w places (Live name) (next_in a newer)
    high : (v : Snap) → IsIn e.snaps v → v.group < group_of new d → IsIn older v

  module _ (d : Dataset) (p : IsPlaced new d) where
    -- which snapshot it is
    snap_in : (id : SnapId) → d ≡ Snapped id → (t : Snap) × IsIn p.system.snaps t × (id_of t ≡ id)
    snap_in id e = by_newer p.newer p.snaps_are (sym p.is ∙ e)
      where
        by_newer : (newer : List Snap) → p.system.snaps ≡ p.older ++ newer → next_in p.name newer ≡ Snapped id → (t : Snap) × IsIn p.system.snaps t × (id_of t ≡ id)
        by_newer [] is k = absurd (live_or_snap p.name id k)
        by_newer (t ∷ ts) is k = (t, subst (λ l. IsIn l t) (sym is) (in_middle p.older t ts), cc)

    -- the live map, or one that was taken since, is of this file system
    same_name : Met w new name d → (p.name ≡ name) ⊎ ((j : ℕ) × (id : SnapId) × (d ≡ Snapped id) × IsBefore w j (Live name) (Snapped id))
    same_name (at_live e) = inl (by_newer p.newer (sym p.is ∙ e))
      where
        by_newer : (newer : List Snap) → next_in p.name newer ≡ Live name → p.name ≡ name
        by_newer [] k = cc
        by_newer (t ∷ ts) k = absurd (live_or_snap name (id_of t) (sym k))
    same_name (taken u h g e) = let t = snap_in (id_of u) e in inl (o'.once p.name name t.0 u (p.system, p.at, t.1) h t.2).0
    same_name (kept j id e r) = inr (j, id, e, r)

    module _ (e : FileSystem) (at : get w.file_systems p.name ≡ Some e) (went : WentOn w.group e p.system) where
      live_point : p.name ≡ name → Point p.name e d
      live_point same = record { older = e.snaps; newer = []; snaps_are = sym (append_none e.snaps); places = zero; reached = ap Live (sym same); high = λ v h l. h }

      kept_point : (j : ℕ) (id : SnapId) → d ≡ Snapped id → IsBefore w j (Live name) (Snapped id) → Point p.name e d
      kept_point j id is r =
          let t = snap_in id is in
          ⊎_elim
          (λ (v, h, ids, maps).
          let l = split_at e.snaps v h in
          let one : id_of v ≡ id = sym ids ∙ t.2 in
          record {
            older = l.0;
            newer = v ∷ l.1;
            snaps_are = l.2;
            places = j;
            reached = subst (λ y. IsBefore w j (Live name) (Snapped y)) (sym one) r;
            high = λ u k m.
                let a : group_of new d ≡ id.group = ap (group_of new) is in
                let b = ap (λ (y : SnapId). y.group) one in
                older_than w o p.name e at l.0 v l.1 l.2 u k (omega arith);
          })
          (λ k.
          let a = kept_low j id r in
          let b = ap (λ (y : SnapId). y.group) t.2 in
          let c = k.0 in
          absurd (omega arith))
          (went.snaps t.0 t.1)

      point : Met w new name d → Point p.name e d
      point met = ⊎_elim live_point (λ (j, id, is, r). kept_point j id is r) (same_name met)

      back_in : IsThere new d → Met w new name d → (id : SnapId) → previous_of new d ≡ Some id → Met w new name (Snapped id)
      back_in there met id e' = by_before (by_prev new o' p.name p.system p.at p.older p.newer p.snaps_are id (ap (previous_of new) (sym p.is) ∙ e'))
        where
          q : Point p.name e d
          q = point met

          on : (i : SnapId) → (k : ℕ) × IsBefore w k (next_in p.name q.newer) (Snapped i) → Met w new name (Snapped i)
          on i k = let c = then_on w q.places k.0 (Live name) (next_in p.name q.newer) (Snapped i) q.reached k.1 in kept c.0 i refl c.1

          own : (u : Snap) → IsIn p.system.snaps u → id ≡ id_of u
              → ((v : Snap) × IsIn e.snaps v × (id_of u ≡ id_of v) × (u.map ≡ v.map)) ⊎ ((u.group ≡ w.group) × (u.map ≡ p.system.live)) → Met w new name (Snapped id)
          own u h is (inl (v, k, ids, maps)) =
              let l = prev_lower new o' d there id e' in
              let a = ap (λ (y : SnapId). y.group) (is ∙ ids) in
              let r = reach_older w o p.name e at q.older q.newer q.snaps_are v (q.high v k (omega arith)) in
              subst (λ y. Met w new name (Snapped y)) (sym (is ∙ ids)) (on (id_of v) r)
          own u h is (inr k) = ⊎_elim
              (λ (same : p.name ≡ name). taken u (p.system, ap (get new.file_systems) (sym same) ∙ p.at, h) k.0 (ap Snapped is))
              (λ (j, i, same, r).
              let l = prev_lower new o' d there id e' in
              let m : group_of new d ≡ i.group = ap (group_of new) same in
              let low = kept_low j i r in
              let a = ap (λ (y : SnapId). y.group) is in
              let b = k.0 in
              absurd (omega arith))
              (same_name met)

          by_before : (p.system.origin ≡ Some id) ⊎ ((u : Snap) × IsIn p.older u × (id ≡ id_of u)) → Met w new name (Snapped id)
          by_before (inl k) = on id (reach_origin w o p.name e at q.older q.newer q.snaps_are id (sym went.origin ∙ k))
          by_before (inr (u, h, is)) =
              let i = subst (λ l. IsIn l u) (sym p.snaps_are) (in_left p.older p.newer u h) in
              own u i is (went.snaps u i)

    -- a file system that was made has no dataset of the lineage
    elsewhere : get w.file_systems p.name ≡ None → IsMade w p.system → Met w new name d → ⊥
    elsewhere none fresh met = ⊎_elim
        (λ (same : p.name ≡ name). no_value x (sym none ∙ ap (get w.file_systems) same ∙ here))
        (λ (j, id, is, r).
        let t = snap_in id is in
        let a = kept_low j id r in
        let b = (fresh.snaps t.0 t.1).0 in
        let c = ap (λ (y : SnapId). y.group) t.2 in
        omega arith)
        (same_name met)

  -- one place back
  pub back : (d : Dataset) → IsThere new d → Met w new name d → (id : SnapId) → previous_of new d ≡ Some id → Met w new name (Snapped id)
  back d there met id e =
      let p = place new d there in
      ⊎_elim
      (λ (f, at, went). back_in d p f at went there met id e)
      (λ (none, fresh). absurd (elsewhere d p none fresh met))
      (later p.name p.system p.at)

  -- any number of places back
  pub walk : (k : ℕ) (d e : Dataset) → IsThere new d → Met w new name d → IsBefore new k d e → Met w new name e
  walk zero d e there met a = subst (Met w new name) a met
  walk (suc k) d e there met (id, is, a) = walk k (Snapped id) e (prev_there new o' d there id is) (back d there met id is) a
