-- The blocks of a live map by their births, and another live map in its place.
use Rattle.std.proofs.Common.{◌≡◌, ℕ, ◌≤◌, ◌<◌, List, [], ◌∷◌, Option, Some, None, map, refl, sym, ap, subst, ◌∙◌, ◌⊎◌, inl, inr, ⊎_elim, arith}
use Rattle.std.specs.Option.{option_map_or}
use Rattle.std.specs.FinMap.{get, insert}
use Rattle.std.specs.FinSet.{len, difference, union, empty}
use Rattle.std.proofs.lemmas.Bool.{cases_lt}
use Rattle.base.specs.Map.{Map, Block, BlockSet, blocks}
use Rattle.base.specs.Surveys.{IsIn}
use Rattle.model.specs.World.{World, FileSystem, Snap, SnapId, Dataset, Live, Snapped, id_of, map_of, map_of_snap, previous_of, blocks_of_all, union_of}
use Rattle.model.specs.Sums.{referenced_of, written_of, used_by_dataset, used_by_snapshots}
use Rattle.world.specs.Sets.{Has}
use Rattle.world.specs.Blocks.{block_order as o, after}
use Rattle.world.specs.Lineage.{Row, IsSound}
use Rattle.world.specs.Shapes.{Name, SnapShape, Before, before_next, before_live, row, IsTail, lineages}
use Rattle.world.specs.Sums.{origin_group}
use Rattle.world.specs.Worlds.{snap_shape, shapes, AreFileSystems}
use Rattle.world.specs.Dead.{base_of, below_of}
use Rattle.world.proofs.lists.SetCounts.{in_difference, from_difference}
use Rattle.world.proofs.lineage.Lineage.{below_born, in_after, from_after}
use Rattle.world.proofs.lists.Listed.{in_map, map_in}
use Rattle.world.proofs.lineage.Moves.{before_born}
use Rattle.world.proofs.lineage.Replace.{live_or_snap}
use Rattle.world.proofs.lineage.Bridge.{start, starts, start_is, own_row, live_row, live_there, in_middle, no_block, in_world, from_world, in_union_of, map_of_live, map_of_kept, previous_of_live}
use Rattle.world.proofs.lineage.Dead.{there_row, row_base, row_below, in_line}
use Rattle.world.proofs.changes.LiveMaps.{live_alone, live_new, live_rest}
use Rattle.world.proofs.lineage.Put.{put_here}
use Rattle.world.proofs.changes.TableWrites.{live_systems, live_loses}
use Rattle.limits.proofs.Next.{from_newest}
use Rattle.limits.proofs.Snapshots.{in_all, from_all}

-- ---- what stands before a live map

-- groups rise along a file system, and a block of its live map that was born by the group of what stands before is in that
module _ (g : ℕ) (name : Name) (live : BlockSet) where
  down : (q : Before) (ts : List SnapShape) → ((d : Dataset) (n : Row Dataset) → IsTail g name live q ts d n → IsSound Dataset n)
      → (b : Block) → Has live b → b.birth ≤ q.base → Has q.below b
  down q [] sound b h l = (sound (Live name) (row g q live) (refl, refl)).kept b h l
  down q (t ∷ ts) sound b h l =
      let s = sound (Snapped t.id) (row t.id.group q t.blocks) (inl (refl, refl)) in
      let f = s.falls in
      s.kept b (down (before_next t) ts (λ d n r. sound d n (inr r)) b h (omega (arith, l, f))) l

  rises : (q : Before) (ts : List SnapShape) → ((d : Dataset) (n : Row Dataset) → IsTail g name live q ts d n → IsSound Dataset n) → q.base ≤ (before_live q ts).base
  rises q [] sound = omega arith
  rises q (t ∷ ts) sound =
      let f = (sound (Snapped t.id) (row t.id.group q t.blocks) (inl (refl, refl))).falls in
      let r = rises (before_next t) ts (λ d n r. sound d n (inr r)) in
      omega (arith, f, r)

module _ (w : World) (good : AreFileSystems w.file_systems w.group) (name : Name) (f : FileSystem) (at : get w.file_systems name ≡ Some f) where
  abbrev q : Before
  q = start w.file_systems w.group good.lines name f at

  abbrev origin : BlockSet
  origin = blocks (map_of_snap w f.origin)

  abbrev previous : BlockSet
  previous = blocks (map_of_snap w (previous_of w (Live name)))

  abbrev snapped : BlockSet
  snapped = blocks_of_all (map (λ (t : Snap). t.map) f.snaps)

  pub live_in : (b : Block) → Has (blocks f.live) b → Has (union_of w) b
  live_in b h = in_world w w.group good.lines (Live name) b (subst (λ x. Has (blocks x) b) (sym (map_of_live w name f at)) h)

  sound : (d : Dataset) (n : Row Dataset) → IsTail w.group name (blocks f.live) q (map snap_shape f.snaps) d n → IsSound Dataset n
  sound d n r = good.lines.facts.sound d n (own_row w.file_systems w.group good.lines name f at d n r)

  origin_is : (q.base ≡ origin_group f) × (q.below ≡ origin)
  origin_is = let k = start_is w w.group good.lines f.origin q (starts w.file_systems w.group good.lines name f at) in (k.1, k.2)

  -- the blocks of the live map that the origin has are those born by its group
  pub origin_born : (b : Block) → Has origin b → b.birth ≤ origin_group f
  origin_born b h =
      let e = origin_is in
      let l = before_born (shapes w.file_systems) w.group good.lines f.origin q (starts w.file_systems w.group good.lines name f at) b (subst (λ x. Has x b) (sym e.1) h) in
      let z = e.0 in
      omega (arith, l, z)

  pub origin_kept : (b : Block) → Has (blocks f.live) b → b.birth ≤ origin_group f → Has origin b
  origin_kept b h l =
      let e = origin_is in
      let z = e.0 in
      subst (λ x. Has x b) e.1 (down w.group name (blocks f.live) q (map snap_shape f.snaps) sound b h (omega (arith, l, z)))

  -- those that the newest snapshot has, or else the origin, are those born by its group
  pub previous_born : (b : Block) → Has previous b → b.birth ≤ base_of w (Live name)
  unfolding below_of
  previous_born b h =
      let r = there_row w w.group good.lines (Live name) (f, at) in
      let l = below_born (lineages (shapes w.file_systems) w.group) good.lines.facts (Live name) r.0 b r.1
      (subst (λ x. Has x b) (sym (row_below w w.group good.lines (Live name) r.0 r.1)) h) in
      let e = row_base w w.group good.lines (Live name) r.0 r.1 in
      omega (arith, l, e)

  pub previous_kept : (b : Block) → Has (blocks f.live) b → b.birth ≤ base_of w (Live name) → Has previous b
  unfolding below_of
  previous_kept b h l = ((in_line w w.group good.lines refl (Live name) (f, at)).kept b (subst (λ m. Has (blocks m) b) (sym (map_of_live w name f at)) h)).1 l

  -- their groups rise, below the open one
  pub previous_low : base_of w (Live name) < w.group
  previous_low = (in_line w w.group good.lines refl (Live name) (f, at)).falls

  pub origin_high : origin_group f ≤ base_of w (Live name)
  origin_high =
      let e = origin_is.0 in
      let r = rises w.group name (blocks f.live) q (map snap_shape f.snaps) sound in
      let b = row_base w w.group good.lines (Live name) (live_row w.file_systems w.group good.lines name f at) (live_there w.file_systems w.group good.lines name f at) in
      omega (arith, e, r, b)

  -- a block of the live map that a snapshot has was born by the newest one's group
  pub snapped_low : (b : Block) → Has (blocks f.live) b → Has snapped b → b.birth ≤ base_of w (Live name)
  snapped_low b h k =
      let m = from_all (map (λ (t : Snap). t.map) f.snaps) b k in
      let t = in_map (λ (t : Snap). t.map) f.snaps m.0 m.1 in
      let i : Has (blocks (map_of w (Snapped (id_of t.0)))) b =
      subst (λ m. Has (blocks m) b) (t.2 ∙ sym (map_of_kept w w.group good.lines name f t.0 (id_of t.0) at t.1 refl)) m.2 in
      ⊎_elim
      (λ late. absurd (live_or_snap name (id_of t.0) (sym (live_alone w good name f at (Snapped (id_of t.0)) b i h late))))
      (λ low. low)
      (cases_lt (base_of w (Live name)) b.birth)

  -- which a dataset has
  pub snapped_in : (b : Block) → Has snapped b → Has (union_of w) b
  snapped_in b h = let m = from_all (map (λ (t : Snap). t.map) f.snaps) b h in in_union_of w name f m.0 b at (inr m.1) m.2

  -- and one that was, but not by the origin's, is a snapshot's
  pub snapped_there : (b : Block) → Has (blocks f.live) b → origin_group f < b.birth → b.birth ≤ base_of w (Live name) → Has snapped b
  unfolding base_of
  snapped_there b h late l = by_previous (previous_of w (Live name)) refl
    where
      has : (x : Option SnapId) → previous_of w (Live name) ≡ x → Has (blocks (map_of_snap w x)) b
      has x e = subst (λ y. Has (blocks (map_of_snap w y)) b) e (previous_kept b h l)

      by_previous : (x : Option SnapId) → previous_of w (Live name) ≡ x → Has snapped b
      by_previous None e = absurd (no_block b (has None e))
      by_previous (Some id) e = ⊎_elim
          (λ (none, is).
          let a = ap (λ y. option_map_or (λ (i : SnapId). i.group) y 0) is in
          let c = ap (λ y. option_map_or (λ (i : SnapId). i.group) y 0) e in
          absurd (omega (arith, a, c, late, l)))
          (λ (older, t, is, ids).
          let i : IsIn f.snaps t = subst (λ us. IsIn us t) (sym is) (in_middle older t []) in
          in_all (map (λ (t : Snap). t.map) f.snaps) t.map b (map_in (λ (t : Snap). t.map) f.snaps t i)
          (subst (λ m. Has (blocks m) b) (map_of_kept w w.group good.lines name f t id at i ids) (has (Some id) e)))
          (from_newest f f.snaps id (sym (previous_of_live w w.group good.lines name f at) ∙ e))

  -- ---- another live map, of blocks that were the live map's or are new

  module _ (m : Map) (new : (b : Block) → Has (blocks m) b → Has (blocks f.live) b ⊎ ((b.birth ≡ w.group) × ¬ (Has (union_of w) b))) where
    abbrev v : World
    v = record w { file_systems = insert w.file_systems name (record f { live = m }) }

    pub systems : AreFileSystems (insert w.file_systems name (record f { live = m })) w.group
    systems = live_systems w good name f at m new

    live_is : map_of v (Live name) ≡ m
    live_is = live_new w good name f at m systems.lines

    snap_is : (id : SnapId) → map_of v (Snapped id) ≡ map_of w (Snapped id)
    snap_is id = ⊎_elim (λ k. k.1) (λ e. absurd (live_or_snap name id (sym e))) (live_rest w good name f at m systems.lines (Snapped id))

    from_snap : (x : Option SnapId) → map_of_snap v x ≡ map_of_snap w x
    from_snap None = refl
    from_snap (Some id) = snap_is id

    previous_is : map_of_snap v (previous_of v (Live name)) ≡ map_of_snap w (previous_of w (Live name))
    previous_is =
        from_snap (previous_of v (Live name))
        ∙ ap (map_of_snap w) (previous_of_live v w.group systems.lines name (record f { live = m }) (put_here w.file_systems name (record f { live = m }))
        ∙ sym (previous_of_live w w.group good.lines name f at))

    pub referenced_is : referenced_of v (Live name) ≡ len (blocks m)
    unfolding referenced_of
    referenced_is = ap (λ x. len (blocks x)) live_is

    pub written_is : written_of v (Live name) ≡ len (difference (blocks m) previous)
    unfolding written_of
    written_is i = len (difference (blocks (live_is i)) (blocks (previous_is i)))

    pub by_dataset_is : used_by_dataset v (record f { live = m }) ≡ len (difference (blocks m) origin)
    by_dataset_is = ap (λ x. len (difference (blocks m) (blocks x))) (from_snap f.origin)

    pub by_snapshots_is : used_by_snapshots v (record f { live = m }) ≡ len (difference snapped (union (blocks m) (union origin empty)))
    by_snapshots_is = ap (λ x. len (difference snapped (union (blocks m) (union (blocks x) empty)))) (from_snap f.origin)

    -- ---- what is reached

    -- a block that a dataset has afterwards was born in the open group, or a dataset had it
    pub union_from : (b : Block) → Has (union_of v) b → (b.birth ≡ w.group) ⊎ Has (union_of w) b
    union_from b h =
        let d = from_world v w.group systems.lines b h in
        ⊎_elim
        (λ k. inr (in_world w w.group good.lines d.0 b (subst (λ x. Has (blocks x) b) k.1 d.1)))
        (λ is.
        ⊎_elim (λ k. inr (live_in b k)) (λ k. inl k.0) (new b (subst (λ x. Has (blocks x) b) (ap (map_of v) is ∙ live_is) d.1)))
        (live_rest w good name f at m systems.lines d.0)

    -- what no dataset has any more: what the live map alone had, and the new one hasn't
    union_loses : difference (union_of w) (union_of v) ≡ difference (after (base_of w (Live name)) (blocks f.live)) (blocks m)
    union_loses = live_loses w good name f at m new

    pub union_lost : (b : Block) → Has (union_of w) b → ¬ (Has (union_of v) b) → Has (blocks f.live) b × (base_of w (Live name) < b.birth) × ¬ (Has (blocks m) b)
    union_lost b h out =
        let k = from_difference o (after (base_of w (Live name)) (blocks f.live)) (blocks m) b (subst (λ x. Has x b) union_loses (in_difference o (union_of w) (union_of v) b h out)) in
        let a = from_after (base_of w (Live name)) (blocks f.live) b k.0 in
        (a.0, a.1, k.1)

    pub union_hasnt : (b : Block) → Has (blocks f.live) b → base_of w (Live name) < b.birth → ¬ (Has (blocks m) b) → ¬ (Has (union_of v) b)
    union_hasnt b h l out =
        (from_difference o (union_of w) (union_of v) b (subst (λ x. Has x b) (sym union_loses)
        (in_difference o (after (base_of w (Live name)) (blocks f.live)) (blocks m) b (in_after (base_of w (Live name)) (blocks f.live) b h l) out))).1
