-- What a snapshot of one live map does to what file systems use: nothing of the file system's refreservation is written any more, and all else
-- stays.
use Rattle.std.proofs.Common.{◌≡◌, ℕ, ◌+◌, ◌-◌, List, [], ◌∷◌, ◌++◌, Option, Some, None, map, refl, sym, ap, subst, ◌∙◌, inl, inr, ◌⊎◌, ⊎_elim, arith}
use Rattle.std.specs.Prelude.{unwrap_or}
use Rattle.std.specs.List.{last_or}
use Rattle.std.specs.Option.{option_map, option_map_or, option_or}
use Rattle.std.specs.FinMap.{get, insert}
use Rattle.std.specs.FinMap as finmap
use Rattle.std.specs.FinSet.{len, difference, union, empty, len-empty}
use Rattle.base.specs.Map.{Map, Block, BlockSet, blocks, block_cmp}
use Rattle.base.specs.Surveys.{IsIn}
use Rattle.base.specs.declared.name.member.Member.{Member}
use Rattle.model.specs.World.{World, FileSystem, Snap, Live, id_of, map_of, map_of_snap, previous_of, maps_of, blocks_of_all, union_of, reach_of}
use Rattle.model.specs.Sums.{referenced_of, written_of, used_here, reservation_of, used_by_dataset, used_by_snapshots}
use Rattle.model.specs.Edits.{with_next_group}
use Rattle.model.specs.requests.Snapshot.{snap_of_live, with_snapshot}
use Rattle.world.specs.Sets.{Has}
use Rattle.world.specs.Blocks.{block_order as o}
use Rattle.world.specs.Shapes.{Name, name_order}
use Rattle.world.specs.Takings.{AreTakable}
use Rattle.world.specs.Worlds.{snap_shape, shape_of, shapes, AreFileSystems}
use Rattle.world.proofs.lists.SetCounts.{same_members, in_difference, from_difference, in_union_left, no-empty}
use Rattle.world.proofs.lineage.Bridge.{shape_at, among, map_of_live, map_of_kept, previous_of_live, in_middle, in_union_of, from_union_of}
use Rattle.world.proofs.steps.Groups.{raise_systems}
use Rattle.world.proofs.changes.Kept.{reach_is}
use Rattle.world.proofs.lineage.Moves.{raised}
use Rattle.world.proofs.lineage.Put.{put_here, put_other, put_cases}
use Rattle.world.proofs.lists.Finding.{in_left, in_either}
use Rattle.world.proofs.lists.Listed.{in_map, map_in}
use Rattle.world.proofs.lists.Maps.{same_value, key_cases}
use Rattle.world.proofs.lineage.Requests.{lineage_facts}
use Rattle.world.proofs.steps.SnapshotLists.{AreIdsBelow, IsReady, fresh, good'}
use Rattle.limits.specs.Levels.{AreSameBut}
use Rattle.limits.specs.Steps.{AreSnapsOrNew, AreEqualBut}
use Rattle.limits.proofs.Few.{same_but, map_same}
use Rattle.limits.proofs.Levels.{here_is, reserved_is}
use Rattle.limits.proofs.Older.{origin_there}
use Rattle.limits.proofs.Snapshots.{in_all, from_all}

last_of : (ts : List Snap) (t : Snap) (x : Option Snap) → last_or x (ts ++ t ∷ []) ≡ Some t
last_of [] t x = refl
last_of (u ∷ ts) t x = last_of ts t (Some u)

module _ (w : World) (good : AreFileSystems w.file_systems w.group) (m : Member) (guid : ℕ) (can : AreTakable w.file_systems (m ∷ [])) where
  abbrev f : FileSystem
  f = can.0.0

  abbrev name : Name
  name = m.file_system

  abbrev t : Snap
  t = snap_of_live w can.0.0 m.component guid

  -- the file system with the snapshot
  abbrev pub longer : FileSystem
  longer = record can.0.0 { snaps = can.0.0.snaps ++ snap_of_live w can.0.0 m.component guid ∷ [] }

  -- the world with it
  abbrev v : World
  v = record w { file_systems = insert w.file_systems m.file_system (record can.0.0 { snaps = can.0.0.snaps ++ snap_of_live w can.0.0 m.component guid ∷ [] }); group = w.group + 1 }

  pub taken_is : with_next_group (with_snapshot w m guid) ≡ v
  taken_is = ap (λ x. with_next_group (option_map_or (λ (s : FileSystem). record w { file_systems = insert w.file_systems m.file_system (record s { snaps = s.snaps ++ snap_of_live w s m.component guid ∷ [] }) }) x w)) can.0.1

  raised_good : AreFileSystems w.file_systems (w.group + 1)
  raised_good = raise_systems w.file_systems w.group (w.group + 1) good (omega arith)

  below : AreIdsBelow w.file_systems w.group guid
  below q e u is i = inl ((lineage_facts (shapes w.file_systems) w.group good.lines).1 (id_of u) (snap_shape u) (q, shape_of e, shape_at w.file_systems q e is, among e.snaps u i, refl))

  ready : (k : Member) → IsIn (m ∷ []) k → IsReady w.file_systems w.group k.file_system
  ready k i n h =
      let x = good.lines.facts.sound (Live k.file_system) (record n { group = w.group })
      (raised (shapes w.file_systems) w.group (w.group + 1) good.lines (omega arith) (w.group + 1) w.group (Live k.file_system) n h) in
      (x.falls, x.born)

  systems : AreFileSystems v.file_systems v.group
  systems = good' m [] guid w raised_good can below ready

  is_new : (q : Name) (e : FileSystem) (u : Snap) → get w.file_systems q ≡ Some e → IsIn e.snaps u → id_of u ≡ id_of t → ⊥
  is_new = fresh m [] guid w raised_good can below ready

  here : get v.file_systems name ≡ Some longer
  here = put_here w.file_systems name longer

  other : (p : Name) → ¬ (p ≡ name) → get v.file_systems p ≡ get w.file_systems p
  other p apart = put_other w.file_systems name longer p apart

  in_longer : (u : Snap) → IsIn longer.snaps u → IsIn f.snaps u ⊎ (u ≡ t)
  in_longer u i = ⊎_elim inl (λ k. ⊎_elim inr (λ z. absurd z) k) (in_either f.snaps (t ∷ []) u i)

  from : AreSnapsOrNew w v
  from p x u is i = ⊎_elim
      (λ k. ⊎_elim
      (λ j. inl (name, f, u, can.0.1, j, refl, refl))
      (λ (e : u ≡ t). inr (λ q y z at j same. is_new q y z at j (same ∙ ap id_of e)))
      (in_longer u (subst (λ (y : FileSystem). IsIn y.snaps u) k.1 i)))
      (λ k. inl (p, x, u, k.1, i, refl, refl))
      (put_cases w.file_systems name longer p x is)

  -- ---- the file system's own numbers

  same_origin : map_of_snap v f.origin ≡ map_of_snap w f.origin
  same_origin = map_same w v good systems from f.origin (origin_there w good name f can.0.1) (origin_there v systems name longer here)

  by_dataset : used_by_dataset v longer ≡ used_by_dataset w f
  by_dataset = ap (λ x. len (difference (blocks f.live) (blocks x))) same_origin

  abbrev snaps : BlockSet
  snaps = blocks_of_all (map (λ (u : Snap). u.map) f.snaps)

  abbrev all : BlockSet
  all = blocks_of_all (map (λ (u : Snap). u.map) longer.snaps)

  in_snaps : (ts us : List Snap) → ((u : Snap) → IsIn ts u → IsIn us u) → (b : Block) → Has (blocks_of_all (map (λ (u : Snap). u.map) ts)) b → Has (blocks_of_all (map (λ (u : Snap). u.map) us)) b
  in_snaps ts us each b h =
      let n = from_all (map (λ (u : Snap). u.map) ts) b h in
      let u = in_map (λ (u : Snap). u.map) ts n.0 n.1 in
      in_all (map (λ (u : Snap). u.map) us) n.0 b (subst (λ y. IsIn (map (λ (u : Snap). u.map) us) y) (sym u.2) (map_in (λ (u : Snap). u.map) us u.0 (each u.0 u.1))) n.2

  from_longer : (b : Block) → Has all b → Has snaps b ⊎ Has (blocks f.live) b
  from_longer b h =
      let n = from_all (map (λ (u : Snap). u.map) longer.snaps) b h in
      let u = in_map (λ (u : Snap). u.map) longer.snaps n.0 n.1 in
      ⊎_elim
      (λ i. inl (in_all (map (λ (u : Snap). u.map) f.snaps) n.0 b (subst (λ y. IsIn (map (λ (u : Snap). u.map) f.snaps) y) (sym u.2) (map_in (λ (u : Snap). u.map) f.snaps u.0 i)) n.2))
      (λ (e : u.0 ≡ t). inr (subst (λ y. Has (blocks y) b) (u.2 ∙ ap (λ (z : Snap). z.map) e) n.2))
      (in_longer u.0 u.1)

  abbrev rest : BlockSet
  rest = blocks_of_all (f.live ∷ map_of_snap w f.origin ∷ [])

  -- the snapshot has what the live map has
  by_snapshots : used_by_snapshots v longer ≡ used_by_snapshots w f
  by_snapshots =
      (λ i. len (difference all (blocks_of_all (f.live ∷ same_origin i ∷ []))))
      ∙ ap len (same_members o (difference all rest) (difference snaps rest)
      (λ b h. let d = from_difference o all rest b h in ⊎_elim
      (λ k. in_difference o snaps rest b k d.1)
      (λ k. absurd (d.1 (in_union_left o (blocks f.live) (blocks_of_all (map_of_snap w f.origin ∷ [])) b k)))
      (from_longer b d.0))
      (λ b h. let d = from_difference o snaps rest b h in
      in_difference o all rest b (in_snaps f.snaps longer.snaps (λ u i. in_left f.snaps (t ∷ []) u i) b d.0) d.1))

  -- it is what stands before the live map
  previous : previous_of v (Live name) ≡ Some (id_of t)
  previous = previous_of_live v v.group systems.lines name longer here ∙ ap (λ x. option_or (option_map id_of x) f.origin) (last_of f.snaps t None)

  kept : map_of_snap v (previous_of v (Live name)) ≡ f.live
  kept = ap (map_of_snap v) previous ∙ map_of_kept v v.group systems.lines name longer t (id_of t) here (in_middle f.snaps t []) refl

  none_written : written_of v (Live name) ≡ 0
  unfolding written_of
  none_written =
      (λ i. len (difference (blocks (live_is i)) (blocks (kept i))))
      ∙ ap len (same_members o (difference (blocks f.live) (blocks f.live)) empty
      (λ b h. let d = from_difference o (blocks f.live) (blocks f.live) b h in absurd (d.1 d.0))
      (λ b h. absurd (no-empty o b h)))
      ∙ len-empty block_cmp
    where
      live_is : map_of v (Live name) ≡ f.live
      live_is = map_of_live v name longer here

  own : used_here v name + (unwrap_or f.limits.refreservation 0 - written_of w (Live name)) ≡ used_here w name + unwrap_or f.limits.refreservation 0
  own =
      let a = here_is v name longer here in
      let b = here_is w name f can.0.1 in
      let d = by_dataset in
      let s = by_snapshots in
      let n = none_written in
      omega (arith, a, b, d, s, n)

  reserved : (p : Name) → reservation_of v p ≡ reservation_of w p
  reserved p = ⊎_elim
      (λ (e : p ≡ name). subst (λ q. reservation_of v q ≡ reservation_of w q) (sym e) (reserved_is v name longer here ∙ sym (reserved_is w name f can.0.1)))
      (λ apart. ap (λ x. option_map_or (λ (s : FileSystem). unwrap_or s.limits.reservation 0) x 0) (other p apart))
      (key_cases name_order p name)

  -- each live map stays as it is
  live : (p : Name) → map_of v (Live p) ≡ map_of w (Live p)
  unfolding map_of
  live p = ⊎_elim
      (λ (e : p ≡ name). subst (λ q. lives (get v.file_systems q) ≡ lives (get w.file_systems q)) (sym e) (ap lives here ∙ sym (ap lives can.0.1)))
      (λ apart. ap lives (other p apart))
      (key_cases name_order p name)
    where
      lives : Option FileSystem → Map
      lives x = option_map_or (λ (s : FileSystem). s.live) x finmap.empty

  referenced : (p : Name) → referenced_of v (Live p) ≡ referenced_of w (Live p)
  unfolding referenced_of
  referenced p = ap (λ x. len (blocks x)) (live p)

  -- ---- what is reached

  union_is : union_of v ≡ union_of w
  union_is = same_members o (union_of v) (union_of w)
      (λ b h. let r = from_union_of v b h in ⊎_elim
      (λ k. ⊎_elim
      (λ (e : r.2 ≡ f.live). in_union_of w name f f.live b can.0.1 (inl refl) (subst (λ x. Has (blocks x) b) e r.5))
      (λ i.
      let u = in_map (λ (u : Snap). u.map) longer.snaps r.2 i in
      ⊎_elim
      (λ j. in_union_of w name f r.2 b can.0.1 (inr (subst (λ x. IsIn (map (λ (u : Snap). u.map) f.snaps) x) (sym u.2) (map_in (λ (u : Snap). u.map) f.snaps u.0 j))) r.5)
      (λ (e : u.0 ≡ t). in_union_of w name f f.live b can.0.1 (inl refl) (subst (λ x. Has (blocks x) b) (u.2 ∙ ap (λ (z : Snap). z.map) e) r.5))
      (in_longer u.0 u.1))
      (subst (λ (y : FileSystem). IsIn (maps_of y) r.2) k.1 r.4))
      (λ k. in_union_of w r.0 r.1 r.2 b k.1 r.4 r.5)
      (put_cases w.file_systems name longer r.0 r.1 r.3))
      (λ b h. let r = from_union_of w b h in ⊎_elim
      (λ (e : r.0 ≡ name).
      let same : r.1 ≡ f = same_value r.1 f (sym r.3 ∙ ap (get w.file_systems) e ∙ can.0.1) in
      in_union_of v name longer r.2 b here (⊎_elim inl (λ i.
      let u = in_map (λ (u : Snap). u.map) f.snaps r.2 i in
      inr (subst (λ x. IsIn (map (λ (u : Snap). u.map) longer.snaps) x) (sym u.2) (map_in (λ (u : Snap). u.map) longer.snaps u.0 (in_left f.snaps (t ∷ []) u.0 u.1))))
      (subst (λ (y : FileSystem). IsIn (maps_of y) r.2) same r.4)) r.5)
      (λ apart. in_union_of v r.0 r.1 r.2 b (other r.0 apart ∙ r.3) r.4 r.5)
      (key_cases name_order r.0 name))

  -- ---- all of that, in the words of the model

  abbrev after : World
  after = with_next_group (with_snapshot w m guid)

  pub taken_systems : AreFileSystems (with_next_group (with_snapshot w m guid)).file_systems (with_next_group (with_snapshot w m guid)).group
  taken_systems = subst (λ (x : World). AreFileSystems x.file_systems x.group) (sym taken_is) systems

  pub taken_there : get (with_next_group (with_snapshot w m guid)).file_systems m.file_system ≡ Some longer
  taken_there = ap (λ (x : World). get x.file_systems name) taken_is ∙ here

  pub taken_others : AreEqualBut w (with_next_group (with_snapshot w m guid)) (m.file_system ∷ [])
  taken_others p out = ap (λ (x : World). get x.file_systems p) taken_is ∙ other p (λ e. out (inl e))

  -- what of the file system's `used` isn't its children's: all of its refreservation is unwritten
  pub taken_here : used_here (with_next_group (with_snapshot w m guid)) m.file_system + (unwrap_or can.0.0.limits.refreservation 0 - written_of w (Live m.file_system))
      ≡ used_here w m.file_system + unwrap_or can.0.0.limits.refreservation 0
  taken_here = subst (λ (x : World). used_here x name + (unwrap_or f.limits.refreservation 0 - written_of w (Live name)) ≡ used_here w name + unwrap_or f.limits.refreservation 0) (sym taken_is) own

  -- that of each other one stays, and so do reservations
  pub taken_others_here : AreSameBut w (with_next_group (with_snapshot w m guid)) (m.file_system ∷ [])
  taken_others_here = subst (λ (x : World). AreSameBut w x (name ∷ [])) (sym taken_is)
      (same_but w v good systems from (name ∷ []) (λ p out. other p (λ e. out (inl e))))

  pub taken_reserved : (p : Name) → reservation_of (with_next_group (with_snapshot w m guid)) p ≡ reservation_of w p
  taken_reserved p = ap (λ (x : World). reservation_of x p) taken_is ∙ reserved p

  -- and what live maps have
  pub taken_referenced : (p : Name) → referenced_of (with_next_group (with_snapshot w m guid)) (Live p) ≡ referenced_of w (Live p)
  taken_referenced p = ap (λ (x : World). referenced_of x (Live p)) taken_is ∙ referenced p

  -- no block comes or goes
  pub taken_union : union_of (with_next_group (with_snapshot w m guid)) ≡ union_of w
  taken_union = ap union_of taken_is ∙ union_is

  pub taken_freeing : (with_next_group (with_snapshot w m guid)).freeing ≡ w.freeing
  taken_freeing = ap (λ (x : World). x.freeing) taken_is

  pub taken_reach : reach_of (with_next_group (with_snapshot w m guid)) ≡ reach_of w
  taken_reach = reach_is after ∙ (λ i. union (taken_union i) (taken_freeing i)) ∙ sym (reach_is w)
