-- What a change of one live map, with the numbers that limits are asked with, does to the counts of its file system and of the pool.
use Rattle.std.proofs.Common.{◌≡◌, ℕ, ◌+◌, ◌-◌, ◌≤◌, ◌<◌, Bool, List, [], ◌∷◌, Some, map, length, refl, sym, ap, subst, ◌∙◌, ◌⊎◌, inl, inr, ⊎_elim, ◌&&◌, arith}
use Rattle.std.specs.Prelude.{nat_le, nat_lt}
use Rattle.std.specs.Option.{option_map_or}
use Rattle.std.specs.FinMap.{get, insert}
use Rattle.std.specs.FinMap as finmap
use Rattle.std.specs.FinSet.{len, difference, union, empty}
use Rattle.std.proofs.lemmas.Bool.{lt-ltb, ltb-true, le-leb, leb-true, and_parts, and_from}
use Rattle.base.specs.declared.number.Key.{Key}
use Rattle.base.specs.Map.{Map, Block, BlockSet, IsTree, blocks}
use Rattle.base.specs.Rewrite.{Changes, rewrite, is_touched}
use Rattle.base.specs.Surveys.{IsIn, IsSurvey}
use Rattle.model.specs.World.{World, FileSystem, Snap, Live, map_of, map_of_snap, previous_of, blocks_of_all, union_of, reach_of}
use Rattle.model.specs.State.{State, waiting_of}
use Rattle.model.specs.Sums.{referenced_of, written_of, used_here, used_by_dataset, used_by_snapshots}
use Rattle.model.specs.Edits.{with_now, after_change}
use Rattle.model.specs.Refusals.{fresh_number}
use Rattle.world.specs.Sets.{Has}
use Rattle.world.specs.Blocks.{block_order as o}
use Rattle.world.specs.Shapes.{Name}
use Rattle.world.specs.Sums.{origin_group}
use Rattle.world.specs.Worlds.{AreFileSystems, IsPoolState}
use Rattle.world.specs.Dead.{base_of}
use Rattle.world.proofs.lists.SetCounts.{in_union_left, in_union_right, from_union, no-empty}
use Rattle.world.proofs.lineage.Bridge.{map_of_live}
use Rattle.world.proofs.changes.Kept.{reach_is}
use Rattle.world.proofs.lineage.Put.{put_here, put_other, put_cases}
use Rattle.world.proofs.maps.Rewrites.{rewrite_is_change}
use Rattle.world.proofs.maps.Cells.{in_blocks, from_new_blocks}
use Rattle.limits.specs.Asked.{IsNumberedOnce}
use Rattle.limits.specs.Forecasts.{count_after, count_between, count_before, IsOutlook, outlook_here}
use Rattle.limits.specs.Levels.{AreSameBut}
use Rattle.limits.specs.Steps.{AreSnapsOrNew, AreEqualBut}
use Rattle.limits.proofs.AskedChanges.{after_is}
use Rattle.limits.proofs.AskedNumbers.{once_of_pair, fresh_rewrite_once}
use Rattle.limits.proofs.Few.{same_but}
use Rattle.limits.proofs.Levels.{here_is}
use Rattle.limits.proofs.Surveyed.{count_split, lost_more, own, goes, gone, count_all, without_changed}
use Rattle.limits.proofs.Replaced.{live_in, origin_born, origin_kept, previous_born, previous_kept, previous_low, origin_high, snapped_low, snapped_in, snapped_there, systems, referenced_is, written_is, by_dataset_is, by_snapshots_is, union_from, union_lost, union_hasnt}

module _ (s : State) (good : IsPoolState s) (name : Name) (f : FileSystem) (at : get s.now.file_systems name ≡ Some f) (ch : Changes) (dropped : List Block)
    (made : List Key) (survey : IsSurvey f.live ch dropped made) where
  abbrev line : AreFileSystems s.now.file_systems s.now.group
  line = good.now.systems

  abbrev live : Map
  live = rewrite f.live ch s.now.group (fresh_number s)

  abbrev after_f : FileSystem
  after_f = record f { live = rewrite f.live ch s.now.group (fresh_number s) }

  abbrev w : World
  w = record s.now { file_systems = insert s.now.file_systems name (record f { live = rewrite f.live ch s.now.group (fresh_number s) }) }

  -- each number is one key's, before and after
  once : IsNumberedOnce f.live
  once = once_of_pair s.size s.now s.last good.pair name f at

  once_after : IsNumberedOnce (rewrite f.live ch s.now.group (fresh_number s))
  once_after = fresh_rewrite_once s f.live ch s.now.group (subst (IsTree s.size) (map_of_live s.now name f at) (good.now.trees (Live name))) once

  now_reaches : (b : Block) → Has (union_of s.now) b → Has (reach_of s.now) b
  now_reaches b h = subst (λ x. Has x b) (sym (reach_is s.now)) (in_union_left o (union_of s.now) s.now.freeing b h)

  -- a fresh number is no dataset's
  fresh_out : (k : Key) (b : Block) → Has (union_of s.now) b → b.number ≡ fresh_number s k → ⊥
  fresh_out k b h e = let l = good.pair.reached.small b (in_union_left o (reach_of s.now) (reach_of s.last) b (now_reaches b h)) in absurd (omega (arith, e, l))

  live_in_union : (b : Block) → Has (blocks f.live) b → Has (union_of s.now) b
  live_in_union = live_in s.now line name f at

  fresh : (k : Key) (b : Block) → Has (blocks f.live) b → b.number ≡ fresh_number s k → ⊥
  fresh k b h e = fresh_out k b (live_in_union b h) e

  -- a block of the new map was the live map's, or no dataset has it
  new : (b : Block) → Has (blocks (rewrite f.live ch s.now.group (fresh_number s))) b → Has (blocks f.live) b ⊎ ((b.birth ≡ s.now.group) × ¬ (Has (union_of s.now) b))
  new b h = ⊎_elim
      (λ (k, x, e, is, t). inl (subst (λ y. Has (blocks f.live) y) is (in_blocks f.live k x e)))
      (λ (k, x, e, t, is, n, birth). inr (birth, λ i. fresh_out k b i n))
      (from_new_blocks f.live live (is_touched f.live ch) s.now.group (fresh_number s) (rewrite_is_change f.live ch s.now.group (fresh_number s)) b h)

  -- a dropped block is the live map's, and not the new one's
  dropped_own : (b : Block) → IsIn dropped b → Has (blocks f.live) b
  dropped_own = own f.live once ch dropped made survey s.now.group (fresh_number s) once_after fresh

  dropped_goes : (b : Block) → IsIn dropped b → ¬ (Has (blocks (rewrite f.live ch s.now.group (fresh_number s))) b)
  dropped_goes = goes f.live once ch dropped made survey s.now.group (fresh_number s) once_after fresh

  -- and what the new one hasn't is dropped
  gone_dropped : (b : Block) → Has (blocks f.live) b → ¬ (Has (blocks (rewrite f.live ch s.now.group (fresh_number s))) b) → IsIn dropped b
  gone_dropped = gone f.live once ch dropped made survey s.now.group (fresh_number s) once_after fresh

  -- ---- the five counts

  referenced : referenced_of w (Live name) + length dropped ≡ referenced_of s.now (Live name) + length made
  unfolding referenced_of
  referenced =
      let a = referenced_is s.now line name f at live new in
      let b = ap (λ x. len (blocks x)) (map_of_live s.now name f at) in
      let c = count_all f.live once ch dropped made survey s.now.group (fresh_number s) once_after fresh in
      omega (arith, a, b, c)

  written : written_of w (Live name) + count_after (base_of s.now (Live name)) dropped ≡ written_of s.now (Live name) + length made
  unfolding written_of
  written =
      let a = written_is s.now line name f at live new in
      let b = ap (λ x. len (difference (blocks x) (blocks (map_of_snap s.now (previous_of s.now (Live name)))))) (map_of_live s.now name f at) in
      let c = without_changed f.live once ch dropped made survey s.now.group (fresh_number s) once_after fresh
      (blocks (map_of_snap s.now (previous_of s.now (Live name)))) (base_of s.now (Live name))
      (previous_low s.now line name f at) (previous_born s.now line name f at) (previous_kept s.now line name f at) in
      omega (arith, a, b, c)

  by_dataset : used_by_dataset w after_f + count_after (origin_group f) dropped ≡ used_by_dataset s.now f + length made
  by_dataset =
      let a = by_dataset_is s.now line name f at live new in
      let low : origin_group f < s.now.group = let h = origin_high s.now line name f at in let l = previous_low s.now line name f at in omega (arith, h, l) in
      let c = without_changed f.live once ch dropped made survey s.now.group (fresh_number s) once_after fresh
      (blocks (map_of_snap s.now f.origin)) (origin_group f) low (origin_born s.now line name f at) (origin_kept s.now line name f at) in
      omega (arith, a, c)

  -- a dropped block that a snapshot has and the origin hasn't
  abbrev left : Block → Bool
  left b = nat_lt (origin_group f) b.birth && nat_le b.birth (base_of s.now (Live name))

  abbrev snaps : BlockSet
  snaps = blocks_of_all (map (λ (t : Snap). t.map) f.snaps)

  abbrev older : BlockSet
  older = union (blocks (map_of_snap s.now f.origin)) empty

  by_snapshots : used_by_snapshots w after_f ≡ used_by_snapshots s.now f + count_between (origin_group f) (base_of s.now (Live name)) dropped
  by_snapshots =
      by_snapshots_is s.now line name f at live new
      ∙ lost_more snaps (union (blocks f.live) older) (union (blocks live) older) dropped left survey.gone_once
      (λ b i h. ⊎_elim
      (λ k. ⊎_elim (λ l. in_union_left o (blocks f.live) older b l) (λ n. absurd (n.1 (snapped_in s.now line name f at b i))) (new b k))
      (λ k. in_union_right o (blocks f.live) older b k)
      (from_union o (blocks live) older b h))
      (λ b i p.
      let c = and_parts _ _ p in
      let late = ltb-true (origin_group f) b.birth c.0 in
      let h = dropped_own b i in (
        snapped_there s.now line name f at b h late (leb-true b.birth (base_of s.now (Live name)) c.1),
        in_union_left o (blocks f.live) older b h,
        λ j. ⊎_elim
            (λ k. dropped_goes b i k)
            (λ k. ⊎_elim
            (λ l. let e = origin_born s.now line name f at b l in absurd (omega (arith, e, late)))
            (λ l. no-empty o b l)
            (from_union o (blocks (map_of_snap s.now f.origin)) empty b k))
            (from_union o (blocks live) older b j),
      ))
      (λ b i h out. ⊎_elim
      (λ k.
      let late : ¬ (b.birth ≤ origin_group f) = λ l. out (in_union_right o (blocks live) older b (in_union_left o (blocks (map_of_snap s.now f.origin)) empty b (origin_kept s.now line name f at b k l))) in (
        gone_dropped b k (λ j. out (in_union_left o (blocks live) older b j)),
        and_from _ _ (lt-ltb (origin_group f) b.birth (omega (arith, late))) (le-leb b.birth (base_of s.now (Live name)) (snapped_low s.now line name f at b k i)),
      ))
      (λ k. absurd (out (in_union_right o (blocks live) older b k)))
      (from_union o (blocks f.live) older b h))

  waiting : len (waiting_of (with_now s w)) ≡ len (waiting_of s) + count_before (base_of s.now (Live name)) s.last.group dropped
  unfolding waiting_of
  waiting =
      lost_more (reach_of s.last) (reach_of s.now) (reach_of w) dropped (λ b. nat_lt (base_of s.now (Live name)) b.birth && nat_lt b.birth s.last.group) survey.gone_once
      (λ b i h. ⊎_elim
      (λ k. ⊎_elim
      (λ e. let l = good.pair.reached.since.older b i in let u = good.pair.reached.since.later in absurd (omega (arith, e, l, u)))
      (now_reaches b)
      (union_from s.now line name f at live new b k))
      (in_freeing b)
      (from_union o (union_of w) s.now.freeing b (subst (λ x. Has x b) (reach_is w) h)))
      (λ b i p.
      let c = and_parts _ _ p in
      let h = live_in_union b (dropped_own b i) in (
        good.pair.reached.since.stays b (now_reaches b h) (ltb-true b.birth s.last.group c.1),
        now_reaches b h,
        λ j. ⊎_elim
            (union_hasnt s.now line name f at live new b (dropped_own b i) (ltb-true (base_of s.now (Live name)) b.birth c.0) (dropped_goes b i))
            (good.now.freeing_apart b h)
            (from_union o (union_of w) s.now.freeing b (subst (λ x. Has x b) (reach_is w) j)),
      ))
      (λ b i h out. ⊎_elim
      (λ k.
      let l = union_lost s.now line name f at live new b k (λ j. out (subst (λ x. Has x b) (sym (reach_is w)) (in_union_left o (union_of w) s.now.freeing b j))) in
      (gone_dropped b l.0 l.2, and_from _ _ (lt-ltb (base_of s.now (Live name)) b.birth l.1) (lt-ltb b.birth s.last.group (good.pair.reached.since.older b i))))
      (λ k. absurd (out (subst (λ x. Has x b) (sym (reach_is w)) (in_union_right o (union_of w) s.now.freeing b k))))
      (from_union o (union_of s.now) s.now.freeing b (subst (λ x. Has x b) (reach_is s.now) h)))
    where
      in_freeing : (b : Block) → Has s.now.freeing b → Has (reach_of s.now) b
      in_freeing b h = subst (λ x. Has x b) (sym (reach_is s.now)) (in_union_right o (union_of s.now) s.now.freeing b h)

  -- ---- the world that limits are asked of

  asked_is : after_change s.now name ch (fresh_number s) ≡ record s.now { file_systems = insert s.now.file_systems name (record f { live = rewrite f.live ch s.now.group (fresh_number s) }) }
  asked_is = after_is s.now name f at ch (fresh_number s)

  -- the counts of its file system and of what waits
  pub outlook : IsOutlook s (after_change s.now name ch (fresh_number s)) name f (record f { live = rewrite f.live ch s.now.group (fresh_number s) }) dropped (length made)
  outlook = subst (λ v. IsOutlook s v name f after_f dropped (length made)) (sym asked_is)
      (record { referenced = referenced; written = written; by_dataset = by_dataset; by_snapshots = by_snapshots; waiting = waiting })

  abbrev asked : World
  asked = after_change s.now name ch (fresh_number s)

  -- its file systems, and what it frees
  pub asked_there : get (after_change s.now name ch (fresh_number s)).file_systems name ≡ Some (record f { live = rewrite f.live ch s.now.group (fresh_number s) })
  asked_there = ap (λ (v : World). get v.file_systems name) asked_is ∙ put_here s.now.file_systems name after_f

  pub asked_systems : AreFileSystems (after_change s.now name ch (fresh_number s)).file_systems (after_change s.now name ch (fresh_number s)).group
  asked_systems = subst (λ (v : World). AreFileSystems v.file_systems v.group) (sym asked_is) (systems s.now line name f at live new)

  -- what of the file system's `used` isn't its children's
  pub asked_used_here : used_here (after_change s.now name ch (fresh_number s)) name ≡ outlook_here s name f dropped (length made)
  asked_used_here =
      let l = outlook in
      let a = l.by_dataset in
      let b = l.by_snapshots in
      let c = l.written in
      let d = count_split (origin_group f) (base_of s.now (Live name)) dropped (origin_high s.now line name f at) in
      let h = here_is asked name after_f asked_there in
      sums _ _ _ _ _ _ _ _ _ _ _ _ a b c d h
    where
      sums : (d' d s' s v' v n c a b h r : ℕ) → d' + a ≡ d + n → s' ≡ s + b → v' + c ≡ v + n → a ≡ b + c → h ≡ d' + s' + (r - v')
          → h ≡ (d + s + n - c) + (r - (v + n - c))
      sums d' d s' s v' v n c a b h r e i j k l = omega (arith, e, i, j, k, l)

  -- ---- the others

  other : (p : Name) → ¬ (p ≡ name) → get (after_change s.now name ch (fresh_number s)).file_systems p ≡ get s.now.file_systems p
  other p apart = ap (λ (v : World). get v.file_systems p) asked_is ∙ put_other s.now.file_systems name after_f p apart

  pub asked_others : AreEqualBut s.now (after_change s.now name ch (fresh_number s)) (name ∷ [])
  asked_others p out = other p (λ is. out (inl is))

  from : AreSnapsOrNew s.now (after_change s.now name ch (fresh_number s))
  from p x u is i = ⊎_elim
      (λ k. inl (name, f, u, at, subst (λ (y : FileSystem). IsIn y.snaps u) k.1 i, refl, refl))
      (λ k. inl (p, x, u, k.1, i, refl, refl))
      (put_cases s.now.file_systems name after_f p x (sym (ap (λ (v : World). get v.file_systems p) asked_is) ∙ is))

  -- their own numbers are the same
  pub asked_others_here : AreSameBut s.now (after_change s.now name ch (fresh_number s)) (name ∷ [])
  asked_others_here = same_but s.now asked line asked_systems from (name ∷ []) asked_others

  pub asked_others_referenced : (p : Name) → ¬ (p ≡ name) → referenced_of (after_change s.now name ch (fresh_number s)) (Live p) ≡ referenced_of s.now (Live p)
  unfolding referenced_of map_of
  asked_others_referenced p apart = ap (λ x. len (blocks (option_map_or (λ (y : FileSystem). y.live) x finmap.empty))) (other p apart)
