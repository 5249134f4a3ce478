-- Where file systems have lost only snapshots and limits, and new ones have nothing of their own, no file system uses more.
use Rattle.std.proofs.Common.{◌≡◌, ℕ, ◌+◌, ◌-◌, ◌≤◌, List, [], ◌∷◌, Option, Some, None, map, refl, sym, ap, subst, ◌∙◌, inl, inr, ⊎_elim, arith}
use Rattle.std.specs.Prelude.{unwrap_or}
use Rattle.std.specs.Option.{option_map, option_map_or, option_or}
use Rattle.std.specs.List.{last_or}
use Rattle.std.specs.FinMap.{get}
use Rattle.std.specs.FinSet.{len, difference, empty, len-empty}
use Rattle.base.specs.Map.{BlockSet, blocks, block_cmp}
use Rattle.base.specs.Surveys.{IsIn}
use Rattle.model.specs.World.{World, FileSystem, Snap, SnapId, Live, Snapped, id_of, map_of, map_of_snap, previous_of, blocks_of_all}
use Rattle.model.specs.Sums.{used_of, referenced_of, written_of, used_by_dataset, used_by_snapshots}
use Rattle.world.specs.Sets.{Has, IsSubset}
use Rattle.world.specs.Blocks.{block_order as o}
use Rattle.world.specs.Shapes.{Name, IsGood}
use Rattle.world.specs.Sums.{origin_group}
use Rattle.world.specs.Worlds.{shapes, AreRising, AreFileSystems}
use Rattle.world.specs.Dead.{base_of, below_of}
use Rattle.world.proofs.lists.SetCounts.{len-subset, in_difference, from_difference, no-empty, same_members}
use Rattle.world.proofs.lists.Listed.{in_map, map_in}
use Rattle.world.proofs.lineage.Bridge.{start, starts, start_is, rising, map_of_kept, map_of_live, previous_of_live}
use Rattle.world.proofs.lineage.Dead.{in_line}
use Rattle.limits.specs.Levels.{IsNoMore}
use Rattle.limits.specs.Limits.{IsWithin, IsKeptOrNone, IsShrunk, IsMade, AreShrunk, AreQuotasMet}
use Rattle.limits.specs.Space.{newest_group}
use Rattle.limits.proofs.Levels.{here_is, reserved_is, nothing_here, no_reservation, used_no_more}
use Rattle.limits.proofs.Older.{origin_there}
use Rattle.limits.proofs.Snapshots.{in_all, from_all}

-- ---- the newest snapshot's group

base_newest : (x : Option SnapId) (ts : List Snap)
    → option_map_or (λ (i : SnapId). i.group) (option_or (option_map id_of (last_or None ts)) x) 0 ≡ newest_group (option_map_or (λ (i : SnapId). i.group) x 0) ts
base_newest x [] = refl
base_newest x (t ∷ ts) = last t ts
  where
    last : (v : Snap) (us : List Snap) → option_map_or (λ (i : SnapId). i.group) (option_or (option_map id_of (last_or (Some v) us)) x) 0 ≡ newest_group v.group us
    last v [] = refl
    last v (u ∷ us) = last u us

newest_high : (g : ℕ) (ts : List Snap) → AreRising g ts → g ≤ newest_group g ts
newest_high g [] r = omega arith
newest_high g (t ∷ ts) r = let a = newest_high t.group ts r.1 in let b = r.0 in omega (arith, a, b)

newest_top : (g : ℕ) (ts : List Snap) (t : Snap) → AreRising g ts → IsIn ts t → t.group ≤ newest_group g ts
newest_top g [] t r i = absurd i
newest_top g (x ∷ xs) t r i = ⊎_elim
    (λ (is : t ≡ x). let e : t.group ≡ x.group = ap (λ (y : Snap). y.group) is in let a = newest_high x.group xs r.1 in omega (arith, a, e))
    (λ k. newest_top x.group xs t r.1 k)
    i

newest_low : (g n : ℕ) (ts : List Snap) → g ≤ n → ((t : Snap) → IsIn ts t → t.group ≤ n) → newest_group g ts ≤ n
newest_low g n [] l h = l
newest_low g n (t ∷ ts) l h = newest_low t.group n ts (h t (inl refl)) (λ u i. h u (inr i))

-- ---- counts of nothing

less_of_itself : (s t : BlockSet) → s ≡ t → len (difference s t) ≡ 0
less_of_itself s t e =
    ap len (same_members o (difference s t) empty
    (λ b h. let k = from_difference o s t b h in absurd (k.1 (subst (λ x. Has x b) e k.0)))
    (λ b h. absurd (no-empty o b h)))
    ∙ len-empty block_cmp

less_of_none : (t : BlockSet) → len (difference empty t) ≡ 0
less_of_none t =
    ap len (same_members o (difference empty t) empty
    (λ b h. absurd (no-empty o b (from_difference o empty t b h).0))
    (λ b h. absurd (no-empty o b h)))
    ∙ len-empty block_cmp

-- ---- one world

module _ (w : World) (g : ℕ) (good : IsGood (shapes w.file_systems) g) where
  module _ (name : Name) (s : FileSystem) (at : get w.file_systems name ≡ Some s) where
    base_live : base_of w (Live name) ≡ newest_group (origin_group s) s.snaps
    unfolding base_of
    base_live = ap (λ x. option_map_or (λ (i : SnapId). i.group) x 0) (previous_of_live w g good name s at) ∙ base_newest s.origin s.snaps

    rising_here : AreRising (origin_group s) s.snaps
    rising_here = subst (λ n. AreRising n s.snaps) (start_is w g good s.origin (start w.file_systems g good name s at) (starts w.file_systems g good name s at)).1 (rising w.file_systems g good name s at)

limit_less : (before after : Option ℕ) → IsKeptOrNone before after → unwrap_or after 0 ≤ unwrap_or before 0
limit_less before after (inl e) = let k = ap (λ x. unwrap_or x 0) e in omega (arith, k)
limit_less before after (inr e) = let k = ap (λ x. unwrap_or x 0) e in omega (arith, k)

limit_met : (n m : ℕ) (before after : Option ℕ) → IsKeptOrNone before after → m ≤ n → IsWithin n before → IsWithin m after
limit_met n m before after (inl e) l h = subst (IsWithin m) (sym e) (lower before h)
  where
    lower : (x : Option ℕ) → IsWithin n x → IsWithin m x
    lower None h = tt
    lower (Some q) h = omega (arith, l, h)
limit_met n m before after (inr e) l h = subst (IsWithin m) (sym e) tt

-- ---- two worlds

module _ (old new : World) (good : AreFileSystems old.file_systems old.group) (good' : AreFileSystems new.file_systems new.group) (shrunk : AreShrunk old new) where
  snap_kept : (name : Name) (t : FileSystem) (u : Snap) → get new.file_systems name ≡ Some t → IsIn t.snaps u
      → map_of new (Snapped (id_of u)) ≡ map_of old (Snapped (id_of u))
  snap_kept name t u at i = ⊎_elim
      (λ (s, at', k).
      let v = k.snaps u i in
      map_of_kept new new.group good'.lines name t u (id_of u) at i refl ∙ v.3 ∙ sym (map_of_kept old old.group good.lines name s v.0 (id_of u) at' v.1 (sym v.2)))
      (λ (gone, k). absurd (subst (λ l. IsIn l u) k.snaps i))
      (shrunk name t at)

  pub origin_kept : (name : Name) (t : FileSystem) → get new.file_systems name ≡ Some t → map_of_snap new t.origin ≡ map_of_snap old t.origin
  origin_kept name t at = by_origin t.origin refl
    where
      by_origin : (x : Option SnapId) → t.origin ≡ x → map_of_snap new x ≡ map_of_snap old x
      by_origin None e = refl
      by_origin (Some id) e =
          let q = origin_there new good' name t at id e in
          subst (λ i. map_of new (Snapped i) ≡ map_of old (Snapped i)) q.5 (snap_kept q.0 q.1 q.2 q.3 q.4)

  module _ (name : Name) (s t : FileSystem) (at : get old.file_systems name ≡ Some s) (at' : get new.file_systems name ≡ Some t) (k : IsShrunk s t) where
    origins : map_of_snap new t.origin ≡ map_of_snap old s.origin
    origins = origin_kept name t at' ∙ ap (map_of_snap old) k.origin

    base_less : base_of new (Live name) ≤ base_of old (Live name)
    base_less =
        let r = rising_here old old.group good.lines name s at in
        let g : origin_group t ≡ origin_group s = ap (λ x. option_map_or (λ (i : SnapId). i.group) x 0) k.origin in
        let h = newest_high (origin_group s) s.snaps r in
        let l = newest_low (origin_group t) (newest_group (origin_group s) s.snaps) t.snaps (omega (arith, g, h))
        (λ u i. let v = k.snaps u i in let e : u.group ≡ v.0.group = ap (λ (x : SnapId). x.group) v.2 in let q = newest_top (origin_group s) s.snaps v.0 r v.1 in omega (arith, e, q)) in
        let a = base_live old old.group good.lines name s at in
        let b = base_live new new.group good'.lines name t at' in
        omega (arith, l, a, b)

    live_is : map_of new (Live name) ≡ map_of old (Live name)
    live_is = map_of_live new name t at' ∙ k.live ∙ sym (map_of_live old name s at)

    -- of the live map what stands before has no more, so as much is written as before, or more
    written_more : written_of old (Live name) ≤ written_of new (Live name)
    unfolding written_of below_of
    written_more =
        let f = in_line old old.group good.lines refl (Live name) (s, at) in
        let f' = in_line new new.group good'.lines refl (Live name) (t, at') in
        len-subset o (difference (blocks (map_of old (Live name))) (blocks (map_of_snap old (previous_of old (Live name)))))
        (difference (blocks (map_of new (Live name))) (blocks (map_of_snap new (previous_of new (Live name)))))
        (λ b h.
        let i = from_difference o (blocks (map_of old (Live name))) (blocks (map_of_snap old (previous_of old (Live name)))) b h in
        let j : Has (blocks (map_of new (Live name))) b = subst (λ m. Has (blocks m) b) (sym live_is) i.0 in
        in_difference o _ _ b j (λ x. let l = (f'.kept b j).0 x in let c = base_less in i.1 ((f.kept b i.0).1 (omega (arith, l, c)))))

    snaps_fewer : IsSubset (blocks_of_all (map (λ (u : Snap). u.map) t.snaps)) (blocks_of_all (map (λ (u : Snap). u.map) s.snaps))
    snaps_fewer b h =
        let m = from_all (map (λ (u : Snap). u.map) t.snaps) b h in
        let u = in_map (λ (u : Snap). u.map) t.snaps m.0 m.1 in
        let v = k.snaps u.0 u.1 in
        in_all (map (λ (u : Snap). u.map) s.snaps) v.0.map b (map_in (λ (u : Snap). u.map) s.snaps v.0 v.1) (subst (λ x. Has (blocks x) b) (u.2 ∙ v.3) m.2)

    by_dataset : used_by_dataset new t ≡ used_by_dataset old s
    by_dataset i = len (difference (blocks (k.live i)) (blocks (origins i)))

    by_snapshots : used_by_snapshots new t ≤ used_by_snapshots old s
    by_snapshots =
        let e : blocks_of_all (t.live ∷ map_of_snap new t.origin ∷ []) ≡ blocks_of_all (s.live ∷ map_of_snap old s.origin ∷ []) = λ i. blocks_of_all (k.live i ∷ origins i ∷ []) in
        len-subset o (difference (blocks_of_all (map (λ (u : Snap). u.map) t.snaps)) (blocks_of_all (t.live ∷ map_of_snap new t.origin ∷ [])))
        (difference (blocks_of_all (map (λ (u : Snap). u.map) s.snaps)) (blocks_of_all (s.live ∷ map_of_snap old s.origin ∷ [])))
        (λ b h.
        let i = from_difference o (blocks_of_all (map (λ (u : Snap). u.map) t.snaps)) (blocks_of_all (t.live ∷ map_of_snap new t.origin ∷ [])) b h in
        in_difference o _ _ b (snaps_fewer b i.0) (λ x. i.1 (subst (λ y. Has y b) (sym e) x)))

    kept_no_more : IsNoMore old new name
    kept_no_more =
        let a = by_dataset in
        let b = by_snapshots in
        let c = written_more in
        let d = limit_less s.limits.refreservation t.limits.refreservation k.refreservation in
        let x = here_is old name s at in
        let y = here_is new name t at' in
        let r = limit_less s.limits.reservation t.limits.reservation k.reservation in
        let p = reserved_is old name s at in
        let q = reserved_is new name t at' in
        record { here = sums _ _ _ _ _ _ _ _ _ _ a b c d x y; reserved = omega (arith, r, p, q) }
      where
        sums : (d' d s' s r' r w' w h' h : ℕ) → d' ≡ d → s' ≤ s → w ≤ w' → r' ≤ r → h ≡ d + s + (r - w) → h' ≡ d' + s' + (r' - w') → h' ≤ h
        sums d' d s' s r' r w' w h' h a b c e x y = omega (arith, a, b, c, e, x, y)

  module _ (name : Name) (t : FileSystem) (at : get new.file_systems name ≡ Some t) (k : IsMade old t) where
    made_no_more : IsNoMore old new name
    made_no_more =
        let a = less_of_itself (blocks t.live) (blocks (map_of_snap new t.origin)) (ap (λ m. blocks m) (k.live ∙ sym (origin_kept name t at))) in
        let b : used_by_snapshots new t ≡ 0 =
        ap (λ l. len (difference (blocks_of_all (map (λ (u : Snap). u.map) l)) (blocks_of_all (t.live ∷ map_of_snap new t.origin ∷ [])))) k.snaps
        ∙ less_of_none (blocks_of_all (t.live ∷ map_of_snap new t.origin ∷ [])) in
        let y = here_is new name t at in
        let d : unwrap_or t.limits.refreservation 0 ≡ 0 = ap (λ l. unwrap_or l.refreservation 0) k.limits in
        let r : unwrap_or t.limits.reservation 0 ≡ 0 = ap (λ l. unwrap_or l.reservation 0) k.limits in
        let q = reserved_is new name t at in
        record { here = sums _ _ _ _ _ _ a b d y; reserved = omega (arith, r, q) }
      where
        sums : (d s r w h n : ℕ) → d ≡ 0 → s ≡ 0 → r ≡ 0 → h ≡ d + s + (r - w) → h ≤ n
        sums d s r w h n a b c e = omega (arith, a, b, c, e)

  -- no file system's own numbers are more
  pub no_more : (name : Name) → IsNoMore old new name
  no_more name = by_new (get new.file_systems name) refl
    where
      by_new : (x : Option FileSystem) → get new.file_systems name ≡ x → IsNoMore old new name
      by_new None e =
          let a = nothing_here new good'.hierarchy name e in
          let b = no_reservation new good'.hierarchy name e in
          record { here = omega (arith, a); reserved = omega (arith, b) }
      by_new (Some t) e = ⊎_elim (λ (s, at, k). kept_no_more name s t at e k) (λ (gone, k). made_no_more name t e k) (shrunk name t e)

  -- so none uses more
  pub uses_no_more : (name : Name) → used_of new name ≤ used_of old name
  uses_no_more name = used_no_more old new good.hierarchy good'.hierarchy name (λ lower u. no_more lower)

  -- and every quota and refquota holds still
  pub quotas_stay : AreQuotasMet old → AreQuotasMet new
  unfolding referenced_of
  quotas_stay met = record {
    quotas = λ name t at. ⊎_elim
        (λ (s, at', k). limit_met (used_of old name) (used_of new name) s.limits.quota t.limits.quota k.quota (uses_no_more name) (met.quotas name s at'))
        (λ (gone, k). subst (λ l. IsWithin (used_of new name) l.quota) (sym k.limits) tt)
        (shrunk name t at);
    refquotas = λ name t at. ⊎_elim
        (λ (s, at', k).
        limit_met (len (blocks (map_of old (Live name)))) (len (blocks (map_of new (Live name)))) s.limits.refquota t.limits.refquota k.refquota
        (let e = ap (λ m. len (blocks m)) (live_is name s t at' at k) in omega (arith, e)) (met.refquotas name s at'))
        (λ (gone, k). subst (λ l. IsWithin (len (blocks (map_of new (Live name)))) l.refquota) (sym k.limits) tt)
        (shrunk name t at);
  }
