-- What serves as a source for a file system serves so in a later world, and lineages go on.
use Rattle.std.proofs.Common.{◌≡◌, ℕ, zero, suc, ◌<◌, ◌≤◌, List, [], ◌∷◌, ◌++◌, Some, refl, sym, ap, subst, ◌∙◌, ⊎_elim, arith}
use Rattle.std.specs.FinMap.{get}
use Rattle.base.specs.Map.{Map}
use Rattle.base.specs.Surveys.{IsIn}
use Rattle.model.specs.World.{World, FileSystem, Snap, SnapId, Dataset, Live, Snapped, id_of, map_of, previous_of}
use Rattle.world.specs.Dead.{IsThere, group_of, next_in}
use Rattle.world.specs.RunLaws.{HasSnap}
use Rattle.world.specs.Shapes.{Name}
use Rattle.world.specs.Worlds.{AreRising}
use Rattle.world.proofs.lineage.Bridge.{map_of_live, in_middle, rising_above}
use Rattle.world.proofs.lists.Finding.{append_none, in_left}
use Rattle.world.proofs.lists.Maps.{same_value, no_value}
use Rattle.world.proofs.changes.Promotions.{split_at, append_assoc}
use Rattle.laws.specs.Lineages.{IsBefore, SharesUntil, origin_group, IsOrdered, HasLineages}
use Rattle.laws.specs.Bookmarks.{IsSource}
use Rattle.laws.proofs.Lineages.{then_on, one_back, place, live_or_snap, kept_map, by_prev, live_reach, reach_older, there_closed, prev_there, prev_lower, before_there, before_lower, through, line_source}
use Rattle.laws.proofs.Walking.{IsNewest, WentOn, IsMade, IsLater, Met, at_live, taken, kept, walk}
pub use Rattle.laws.proofs.Keys.{itself_below}

module _ (w new : World) (o : IsOrdered w) (o' : IsOrdered new) (later : IsLater w new) where
  -- a snapshot that stays keeps its map
  pub of_kept : (id : SnapId) → IsThere w (Snapped id) → IsThere new (Snapped id) → map_of new (Snapped id) ≡ map_of w (Snapped id)
  of_kept id was (a, f, t, at, h, ids) =
      kept_map new o' a f t id at h ids
      ∙ ⊎_elim
      (λ (e, i, went). ⊎_elim
      (λ (v, k, same, maps). maps ∙ sym (kept_map w o a e v id i k (sym same ∙ ids)))
      (λ k.
      let l = there_closed w o id was in
      let one = ap (λ (y : SnapId). y.group) ids in
      let two = k.0 in
      absurd (omega arith))
      (went.snaps t h))
      (λ (none, fresh).
      let l = there_closed w o id was in
      let one = ap (λ (y : SnapId). y.group) ids in
      let two = (fresh.snaps t h).0 in
      absurd (omega arith))
      (later a f at)

  -- and what is of a closed group was there
  pub was_there : (id : SnapId) → id.group < w.group → IsThere new (Snapped id) → IsThere w (Snapped id)
  was_there id low (a, f, t, at, h, ids) = ⊎_elim
      (λ (e, i, went). ⊎_elim
      (λ (v, k, same, maps). (a, e, v, i, k, sym same ∙ ids))
      (λ k.
      let one = ap (λ (y : SnapId). y.group) ids in
      let two = k.0 in
      absurd (omega arith))
      (went.snaps t h))
      (λ (none, fresh).
      let one = ap (λ (y : SnapId). y.group) ids in
      let two = (fresh.snaps t h).0 in
      absurd (omega arith))
      (later a f at)

  -- ---- a file system that was there

  module _ (name : Name) (f f' : FileSystem) (is : get w.file_systems name ≡ Some f) (is' : get new.file_systems name ≡ Some f') where
    -- it went on
    went : WentOn w.group f f'
    went = ⊎_elim
        (λ (e, i, k). subst (λ y. WentOn w.group y f') (same_value e f (sym i ∙ is)) k)
        (λ k. absurd (no_value f (sym k.0 ∙ is)))
        (later name f' is')

    -- what stands before it is what stood there, or was taken since
    pub met : (k : ℕ) (d : Dataset) → IsBefore new k (Live name) d → Met w new name d
    met k d before = walk w new o o' later name f is k (Live name) d (f', is') (at_live refl) before

    -- a snapshot that was taken since has its live map
    pub of_taken : (u : Snap) → HasSnap new name u → u.group ≡ w.group → map_of new (Snapped (id_of u)) ≡ f'.live
    of_taken u (e, at, h) g =
        let same = same_value e f' (sym at ∙ is') in
        let i = subst (λ (y : FileSystem). IsIn y.snaps u) same h in
        kept_map new o' name f' u (id_of u) is' i refl
        ∙ ⊎_elim
        (λ (v, k, ids, maps).
        let l = o.closed name v (f, is, k) in
        let one = ap (λ (y : SnapId). y.group) ids in
        absurd (omega arith))
        (λ k. k.1)
        (went.snaps u i)

    -- what stands before its live map is no newer than the snapshot that is now its newest
    module _ (v : Snap) (there : IsIn f.snaps v) (newest : IsNewest w.group v f') where
      upto_origin : (id : SnapId) → f'.origin ≡ Some id → id.group < v.group
      upto_origin id e =
          let up = subst (λ x. AreRising (origin_group x) f.snaps) (sym went.origin ∙ e) (o.rising name f is) in
          rising_above id.group f.snaps v up there

      upto_next : (k : ℕ) (older newer : List Snap) → f'.snaps ≡ older ++ newer → (id : SnapId) → id.group < w.group
          → IsBefore new k (next_in name newer) (Snapped id) → id.group ≤ v.group
      upto_next zero older [] split id low e = absurd (live_or_snap name id e)
      upto_next zero older (t ∷ ts) split id low e =
          let one : id_of t ≡ id = cc in
          let two = ap (λ (y : SnapId). y.group) one in
          ⊎_elim
          (λ (l : t.group ≤ v.group). omega arith)
          (λ (l : t.group ≡ w.group). absurd (omega arith))
          (newest.snaps t (subst (λ l. IsIn l t) (sym split) (in_middle older t ts)))
      upto_next (suc k) older newer split id low (p, e, r) = ⊎_elim
          (λ i.
          let a = upto_origin p i in
          let b = before_lower new o' k (Snapped p) (Snapped id) (o'.origins name f' p is' i) r in
          omega arith)
          (λ (u, h, same).
          let l = split_at older u h in
          let on = split ∙ ap (λ xs. xs ++ newer) l.2 ∙ append_assoc l.0 (u ∷ l.1) newer in
          upto_next k l.0 (u ∷ (l.1 ++ newer)) on id low (subst (λ y. IsBefore new k (Snapped y) (Snapped id)) same r))
          (by_prev new o' name f' is' older newer split p e)

      pub upto : (k : ℕ) (id : SnapId) → id.group < w.group → IsBefore new k (Live name) (Snapped id) → id.group ≤ v.group
      upto k id low r = upto_next k f'.snaps [] (sym (append_none f'.snaps)) id low r

    -- what served in a closed group serves, where no newest snapshot is of a lower one
    module _ (group : ℕ) (closed : group < w.group) (high : (v : Snap) → IsIn f.snaps v → IsNewest w.group v f' → group ≤ v.group)
        (held : Map) (source : IsSource w name group held) where
      of_live : SharesUntil group held f.live
      of_live = subst (SharesUntil group held) (map_of_live w name f is) (source zero (Live name) refl (omega arith))

      of_snap : (v : Snap) → IsIn f.snaps v → group ≤ v.group → SharesUntil group held v.map
      of_snap v i l =
          let k = reach_older w o name f is f.snaps [] (sym (append_none f.snaps)) v i in
          subst (SharesUntil group held) (kept_map w o name f v (id_of v) is i refl) (source k.0 (Snapped (id_of v)) k.1 l)

      new_live : SharesUntil group held f'.live
      new_live key below c h born l = ⊎_elim
          (λ k. through group held f.live f'.live of_live key below c k h born l)
          (⊎_elim
          (λ (e : c.birth ≡ w.group). absurd (omega arith))
          (λ (v, i, newest, k). through group held v.map f'.live (of_snap v i (high v i newest)) key below c k h born l))
          (went.live key c h)

      pub source_stays : IsSource new name group held
      source_stays k d before l = by_place (met k d before)
        where
          -- it shares where d is that dataset, of this map
          of_map : (e : Dataset) (m : Map) → d ≡ e → map_of new e ≡ m → SharesUntil group held m → SharesUntil group held (map_of new d)
          of_map e m i maps = subst (SharesUntil group held) (sym (ap (map_of new) i ∙ maps))

          by_place : Met w new name d → SharesUntil group held (map_of new d)
          by_place (at_live e) = of_map (Live name) f'.live e (map_of_live new name f' is') new_live
          by_place (taken u h g e) = of_map (Snapped (id_of u)) f'.live e (of_taken u h g) new_live
          by_place (kept j id e a) =
              let was = before_there w o j (Live name) (Snapped id) (f, is) a in
              let now = subst (IsThere new) e (before_there new o' k (Live name) d (f', is') before) in
              of_map (Snapped id) (map_of w (Snapped id)) e (of_kept id was now) (source j (Snapped id) a (subst (λ y. group ≤ group_of new y) e l))

-- ---- lineages go on

module _ (w new : World) (lines : HasLineages w) (o' : IsOrdered new) (later : IsLater w new) where
  -- what a dataset of a file system that was there shares with the one before it
  went_shares : (name : Name) (f f' : FileSystem) → get w.file_systems name ≡ Some f → get new.file_systems name ≡ Some f' → (k : ℕ) (d : Dataset)
      → IsBefore new k (Live name) d → (id : SnapId) → previous_of new d ≡ Some id → SharesUntil id.group (map_of new (Snapped id)) (map_of new d)
  went_shares name f f' is is' k d before id e =
      by_place (met w new lines.order o' later name f f' is is' i.0 (Snapped id) i.1)
    where
      there : IsThere new d
      there = before_there new o' k (Live name) d (f', is') before

      i : (j : ℕ) × IsBefore new j (Live name) (Snapped id)
      i = then_on new k (suc zero) (Live name) d (Snapped id) before (one_back new d id e)

      -- it is the live map's, where the one before was taken since
      after_taken : (u : Snap) → HasSnap new name u → u.group ≡ w.group → id ≡ id_of u → Met w new name d
          → SharesUntil id.group (map_of new (Snapped id)) (map_of new d)
      after_taken u h g same (at_live a) key below c r born l =
          ap (λ y. get (map_of new (Snapped y)) below) same
          ∙ ap (λ m. get m below) (of_taken w new lines.order o' later name f f' is is' u h g ∙ sym (map_of_live new name f' is'))
          ∙ ap (λ y. get (map_of new y) below) (sym a)
      after_taken u h g same (taken t k j a) key below c r born l =
          let low = prev_lower new o' d there id e in
          let one = ap (group_of new) a in
          let two = ap (λ (y : SnapId). y.group) same in
          absurd (omega arith)
      after_taken u h g same (kept j t a b) key below c r born l =
          let low = prev_lower new o' d there id e in
          let one = ap (group_of new) a in
          let two = ap (λ (y : SnapId). y.group) same in
          let three = there_closed w lines.order t (before_there w lines.order j (Live name) (Snapped t) (f, is) b) in
          absurd (omega arith)

      by_place : Met w new name (Snapped id) → SharesUntil id.group (map_of new (Snapped id)) (map_of new d)
      by_place (at_live a) = absurd (live_or_snap name id (sym a))
      by_place (taken u h g a) = after_taken u h g (let s : id ≡ id_of u = cc in s) (met w new lines.order o' later name f f' is is' k d before)
      by_place (kept j t a b) =
          let same : id ≡ t = cc in
          let b' = subst (λ y. IsBefore w j (Live name) (Snapped y)) (sym same) b in
          let was = before_there w lines.order j (Live name) (Snapped id) (f, is) b' in
          let low = there_closed w lines.order id was in
          let now = prev_there new o' d there id e in
          let source = source_stays w new lines.order o' later name f f' is is' id.group low
          (λ v h newest. upto w new lines.order o' later name f f' is is' v h newest i.0 id low i.1)
          (map_of w (Snapped id)) (line_source w lines name f is j id b') in
          let l = prev_lower new o' d there id e in
          subst (λ m. SharesUntil id.group m (map_of new d)) (sym (of_kept w new lines.order o' later id was now)) (source k d before (omega arith))

  -- each dataset of a file system that was made has its live map
  made_map : (name : Name) (f : FileSystem) → get new.file_systems name ≡ Some f → IsMade w f → (older newer : List Snap) → f.snaps ≡ older ++ newer
      → map_of new (next_in name newer) ≡ f.live
  made_map name f at made older [] split = map_of_live new name f at
  made_map name f at made older (t ∷ ts) split =
      let h : IsIn f.snaps t = subst (λ l. IsIn l t) (sym split) (in_middle older t ts) in
      kept_map new o' name f t (id_of t) at h refl ∙ (made.snaps t h).1

  made_shares : (name : Name) (f : FileSystem) → get new.file_systems name ≡ Some f → IsMade w f → (older newer : List Snap) → f.snaps ≡ older ++ newer
      → (id : SnapId) → previous_of new (next_in name newer) ≡ Some id → SharesUntil id.group (map_of new (Snapped id)) (map_of new (next_in name newer))
  made_shares name f at made older newer split id e = subst (SharesUntil id.group (map_of new (Snapped id))) (sym (made_map name f at made older newer split))
      (⊎_elim of_origin of_snap (by_prev new o' name f at older newer split id e))
    where
      -- its origin has what it has of a closed group
      of_origin : f.origin ≡ Some id → SharesUntil id.group (map_of new (Snapped id)) f.live
      of_origin k key below c h born l =
          let made_of = made.live id k in
          let closed = there_closed w lines.order id made_of.0 in
          ⊎_elim
          (λ same. ap (λ m. get m below) (of_kept w new lines.order o' later id made_of.0 (o'.origins name f id at k)) ∙ same below l)
          (λ (young : c.birth ≡ w.group). absurd (omega arith))
          (made_of.1 key c h)

      of_snap : (u : Snap) × IsIn older u × (id ≡ id_of u) → SharesUntil id.group (map_of new (Snapped id)) f.live
      of_snap (u, h, same) key below c was born l =
          let i = subst (λ l. IsIn l u) (sym split) (in_left older newer u h) in
          ap (λ m. get m below) (kept_map new o' name f u id at i (sym same) ∙ (made.snaps u i).1)

  pub lineages_go_on : HasLineages new
  lineages_go_on = record {
    order = o';
    shares = λ d id there e.
        let p = place new d there in
        ⊎_elim
        (λ (f, is, went).
        let r = live_reach new o' p.name p.system p.at p.older p.newer p.snaps_are in
        went_shares p.name f p.system is p.at r.0 d (subst (λ y. IsBefore new r.0 (Live p.name) y) (sym p.is) r.1) id e)
        (λ (none, made).
        let same = made_shares p.name p.system p.at made p.older p.newer p.snaps_are id (ap (previous_of new) (sym p.is) ∙ e) in
        subst (λ y. SharesUntil id.group (map_of new (Snapped id)) (map_of new y)) (sym p.is) same)
        (later p.name p.system p.at);
  }
