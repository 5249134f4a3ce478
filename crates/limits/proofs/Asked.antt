-- A change uses the same whatever numbers its new blocks have: so what is asked of a world with fresh numbers holds of the world with
-- those that are taken.
use Rattle.std.proofs.Common.{◌≡◌, ◌+◌, ◌-◌, ◌<◌, [], Option, Some, None, map, refl, sym, ap, subst, ◌∙◌, arith}
use Rattle.std.specs.Prelude.{unwrap_or}
use Rattle.std.specs.Option.{option_map, option_map_or, option_or}
use Rattle.std.specs.List.{last_or}
use Rattle.std.specs.FinMap.{get}
use Rattle.std.specs.FinMap as finmap
use Rattle.std.specs.FinSet.{len, difference, union, empty}
use Rattle.base.specs.Map.{Map, Block, BlockSet, blocks}
use Rattle.base.specs.Surveys.{IsIn}
use Rattle.model.specs.World.{World, FileSystem, Snap, SnapId, Live, Snapped, id_of, map_of, map_of_snap, previous_of, blocks_of_all}
use Rattle.model.specs.Sums.{used_of, referenced_of, written_of, used_by_dataset, used_by_snapshots}
use Rattle.world.specs.Sets.{Has}
use Rattle.world.specs.Blocks.{block_order as o}
use Rattle.world.specs.Shapes.{Name}
use Rattle.world.specs.Worlds.{shape_of, shapes, snap_shape, AreFileSystems}
use Rattle.world.specs.Dead.{IsThere}
use Rattle.world.proofs.lists.SetCounts.{same_members, in_difference, from_difference, no-empty}
use Rattle.world.proofs.lists.Listed.{in_map}
use Rattle.world.proofs.lineage.Requests.{lineage_facts}
use Rattle.world.proofs.lineage.Bridge.{shape_at, among, no_block, map_of_kept, map_of_live, previous_of_live}
use Rattle.world.proofs.lineage.Dead.{in_line}
use Rattle.limits.specs.Levels.{IsSameHere}
use Rattle.limits.specs.Limits.{IsWithin, AreQuotasMet}
use Rattle.limits.specs.Asked.{AreLiveAlike, AreWorldsAlike}
use Rattle.limits.proofs.Levels.{here_is, reserved_is, nothing_here, no_reservation}
use Rattle.limits.proofs.Depth.{used_away}
use Rattle.limits.proofs.Counts.{count_without, older_without}
use Rattle.limits.proofs.Older.{origin_there, previous_there}
use Rattle.limits.proofs.Snapshots.{from_all}

module _ (w : World) (good : AreFileSystems w.file_systems w.group) where
  -- a snapshot's blocks were born before the open group
  snap_low : (id : SnapId) → IsThere w (Snapped id) → (b : Block) → Has (blocks (map_of w (Snapped id))) b → b.birth < w.group
  snap_low id there b h =
      let a = (in_line w w.group good.lines refl (Snapped id) there).born b h in
      let l = (lineage_facts (shapes w.file_systems) w.group good.lines).1 id (snap_shape there.2)
      (there.0, shape_of there.1, shape_at w.file_systems there.0 there.1 there.3, among there.1.snaps there.2 there.4, there.5) in
      omega (arith, a, l)

  low_of : (x : Option SnapId) → ((id : SnapId) → x ≡ Some id → IsThere w (Snapped id)) → (b : Block) → Has (blocks (map_of_snap w x)) b → b.birth < w.group
  low_of None there b h = absurd (no_block b h)
  low_of (Some id) there b h = snap_low id (there id refl) b h

  snaps_low : (name : Name) (t : FileSystem) → get w.file_systems name ≡ Some t → (b : Block) → Has (blocks_of_all (map (λ (u : Snap). u.map) t.snaps)) b → b.birth < w.group
  snaps_low name t at b h =
      let m = from_all (map (λ (u : Snap). u.map) t.snaps) b h in
      let u = in_map (λ (u : Snap). u.map) t.snaps m.0 m.1 in
      snap_low (id_of u.0) (name, t, u.0, at, u.1, refl) b
      (subst (λ x. Has (blocks x) b) (u.2 ∙ sym (map_of_kept w w.group good.lines name t u.0 (id_of u.0) at u.1 refl)) m.2)

module _ (v w : World) (good : AreFileSystems v.file_systems v.group) (good' : AreFileSystems w.file_systems w.group) (alike : AreWorldsAlike v w) where
  snap_agrees : (id : SnapId) → IsThere w (Snapped id) → map_of w (Snapped id) ≡ map_of v (Snapped id)
  snap_agrees id (name, t, u, at, i, ids) =
      let s = alike.each name t at in
      map_of_kept w w.group good'.lines name t u id at i ids
      ∙ sym (map_of_kept v v.group good.lines name s.0 u id s.1 (subst (λ l. IsIn l u) s.2.snaps i) ids)

  agrees : (x : Option SnapId) → ((id : SnapId) → x ≡ Some id → IsThere w (Snapped id)) → map_of_snap w x ≡ map_of_snap v x
  agrees None there = refl
  agrees (Some id) there = snap_agrees id (there id refl)

  module _ (name : Name) (s t : FileSystem) (at : get v.file_systems name ≡ Some s) (at' : get w.file_systems name ≡ Some t) (k : AreLiveAlike v.group s t) where
    same_origin : map_of_snap v s.origin ≡ map_of_snap w t.origin
    same_origin = ap (map_of_snap v) (sym k.origin) ∙ sym (agrees t.origin (origin_there w good' name t at'))

    previous_alike : previous_of w (Live name) ≡ previous_of v (Live name)
    previous_alike =
        previous_of_live w w.group good'.lines name t at'
        ∙ (λ i. option_or (option_map id_of (last_or None (k.snaps i))) (k.origin i))
        ∙ sym (previous_of_live v v.group good.lines name s at)

    same_previous : map_of_snap v (previous_of v (Live name)) ≡ map_of_snap w (previous_of w (Live name))
    same_previous = ap (map_of_snap v) (sym previous_alike) ∙ sym (agrees (previous_of w (Live name)) (λ id e. previous_there w good' (Live name) id (t, at') e))

    -- what the live maps have, but for what an older map has
    live_without : (m n : Map) → m ≡ n → ((b : Block) → Has (blocks n) b → b.birth < w.group) → len (difference (blocks s.live) (blocks m)) ≡ len (difference (blocks t.live) (blocks n))
    live_without m n e low =
        ap (λ x. len (difference (blocks s.live) (blocks x))) e
        ∙ count_without v.group s.live t.live k.live k.once k.once' (blocks n) (λ b h. let l = low b h in let g = alike.group in omega (arith, l, g))

    by_dataset : used_by_dataset v s ≡ used_by_dataset w t
    by_dataset = live_without (map_of_snap v s.origin) (map_of_snap w t.origin) same_origin (low_of w good' t.origin (origin_there w good' name t at'))

    pub by_written : written_of v (Live name) ≡ written_of w (Live name)
    unfolding written_of
    by_written =
        (λ i. len (difference (blocks (map_of_live v name s at i)) (blocks (map_of_snap v (previous_of v (Live name))))))
        ∙ live_without (map_of_snap v (previous_of v (Live name))) (map_of_snap w (previous_of w (Live name))) same_previous
        (low_of w good' (previous_of w (Live name)) (λ id e. previous_there w good' (Live name) id (t, at') e))
        ∙ (λ i. len (difference (blocks (sym (map_of_live w name t at') i)) (blocks (map_of_snap w (previous_of w (Live name))))))

    by_snapshots : used_by_snapshots v s ≡ used_by_snapshots w t
    by_snapshots =
        (λ i. len (difference (blocks_of_all (map (λ (u : Snap). u.map) (sym k.snaps i))) (union (blocks s.live) (union (blocks (same_origin i)) empty))))
        ∙ ap len (older_without v.group s.live t.live k.live (blocks_of_all (map (λ (u : Snap). u.map) t.snaps)) (union (blocks (map_of_snap w t.origin)) empty)
        (λ b h. let l = snaps_low w good' name t at' b h in let g = alike.group in omega (arith, l, g)))

    pub same_referenced : referenced_of v (Live name) ≡ referenced_of w (Live name)
    unfolding referenced_of
    same_referenced =
        ap (λ m. len (blocks m)) (map_of_live v name s at)
        ∙ ap len (sym (whole (blocks s.live)))
        ∙ count_without v.group s.live t.live k.live k.once k.once' empty (λ b h. absurd (no-empty o b h))
        ∙ ap len (whole (blocks t.live))
        ∙ ap (λ m. len (blocks m)) (sym (map_of_live w name t at'))
      where
        whole : (x : BlockSet) → difference x empty ≡ x
        whole x = same_members o _ _ (λ b h. (from_difference o x empty b h).0) (λ b h. in_difference o x empty b h (λ e. no-empty o b e))

    alike_here : IsSameHere v w name
    alike_here =
        let a = by_dataset in
        let b = by_snapshots in
        let c = by_written in
        let d : unwrap_or t.limits.refreservation 0 ≡ unwrap_or s.limits.refreservation 0 = ap (λ l. unwrap_or l.refreservation 0) k.limits in
        let e : unwrap_or t.limits.reservation 0 ≡ unwrap_or s.limits.reservation 0 = ap (λ l. unwrap_or l.reservation 0) k.limits in
        record {
          here = here_is w name t at' ∙ (λ i. sym a i + sym b i + (d i - sym c i)) ∙ sym (here_is v name s at);
          reserved = reserved_is w name t at' ∙ e ∙ sym (reserved_is v name s at);
        }

  pub same_here : (name : Name) → IsSameHere v w name
  same_here name = by_w (get w.file_systems name) refl
    where
      by_w : (x : Option FileSystem) → get w.file_systems name ≡ x → IsSameHere v w name
      by_w None e =
          let f = alike.none name e in
          record {
            here = nothing_here w good'.hierarchy name e ∙ sym (nothing_here v good.hierarchy name f);
            reserved = no_reservation w good'.hierarchy name e ∙ sym (no_reservation v good.hierarchy name f);
          }
      by_w (Some t) e = let s = alike.each name t e in alike_here name s.0 t s.1 e s.2

  -- and its live map is of one size
  pub same_size : (name : Name) → referenced_of w (Live name) ≡ referenced_of v (Live name)
  unfolding referenced_of map_of
  same_size name = by_w (get w.file_systems name) refl
    where
      by_w : (x : Option FileSystem) → get w.file_systems name ≡ x → referenced_of w (Live name) ≡ referenced_of v (Live name)
      by_w None e = ap (λ (x : Option FileSystem). len (blocks (option_map_or (λ (f : FileSystem). f.live) x finmap.empty))) (e ∙ sym (alike.none name e))
      by_w (Some t) e = let s = alike.each name t e in sym (same_referenced name s.0 t s.1 e s.2)

  pub same_used : (name : Name) → used_of w name ≡ used_of v name
  same_used name = used_away v w good.hierarchy good'.hierarchy [] (λ q n. same_here q) name (λ m i. absurd i)

  -- so the limits of the one hold of the other
  pub asked_holds : AreQuotasMet v → AreQuotasMet w
  asked_holds met = record {
    quotas = λ name t at.
        let s = alike.each name t at in
        subst (λ l. IsWithin (used_of w name) l.quota) (sym s.2.limits) (subst (λ n. IsWithin n s.0.limits.quota) (sym (same_used name)) (met.quotas name s.0 s.1));
    refquotas = λ name t at.
        let s = alike.each name t at in
        subst (λ l. IsWithin (referenced_of w (Live name)) l.refquota) (sym s.2.limits) (subst (λ n. IsWithin n s.0.limits.refquota) (same_referenced name s.0 t s.1 at s.2) (met.refquotas name s.0 s.1));
  }
