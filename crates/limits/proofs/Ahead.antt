-- The counts after a change, by what a forecast says and what a row keeps.
use Rattle.std.proofs.Common.{◌≡◌, ◌+◌, ◌-◌, ◌≤◌, ◌<◌, ◌^◌, ℕ, Bool, cond, List, [], ◌∷◌, map, length, Option, None, Some, refl, sym, ap, ◌∙◌, arith, inl, inr, ⊎_elim}
use Rattle.std.specs.Prelude.{count_by, nat_lt, ◌&&◌, unwrap_or}
use Rattle.std.specs.Option.{option_map, option_map_or, option_or}
use Rattle.std.specs.List.{last_or}
use Rattle.std.specs.FinMap.{len as map_len}
use Rattle.std.specs.FinSet.{len}
use Rattle.std.proofs.lemmas.List.{length-map}
use Rattle.std.proofs.lemmas.List.Sums.{sum_by-cons}
use Rattle.base.specs.declared.number.Dead.{Dead}
use Rattle.base.specs.Map.{Map, Block, BlockSet, blocks}
use Rattle.base.specs.Rewrite.{Changes, rewrite}
use Rattle.base.specs.Surveys.{IsIn, dead_block}
use Rattle.batch.specs.declared.forecast.Forecast.{Forecast}
use Rattle.model.specs.State.{State, waiting_of}
use Rattle.model.specs.World.{Snap, SnapId, Live, id_of, map_of_snap, maps_of, previous_of, blocks_of_all, union_of}
use Rattle.model.specs.Sums.{size_without, used_here, referenced_of, written_of, used_by_dataset, used_by_snapshots}
use Rattle.model.specs.Edits.{with_now}
use Rattle.model.specs.Refusals.{fresh_number}
use Rattle.world.specs.Dead.{base_of}
use Rattle.world.specs.Sets.{IsSubset}
use Rattle.world.specs.Sums.{origin_group as origin_in}
use Rattle.world.specs.Blocks.{block_order as o}
use Rattle.datasets.specs.Rows.{Row}
use Rattle.datasets.specs.Writes.{newest_group}
use Rattle.datasets.specs.Origins.{origin_group}
use Rattle.world.proofs.maps.BlockCounts.{len-blocks}
use Rattle.world.proofs.lineage.Bridge.{in_union_of, previous_of_live, map_of_live}
use Rattle.world.proofs.lists.SetCounts.{no-empty, from_union, len-difference, len-subset}
use Rattle.datasets.proofs.Above.{below_is_map, newest_is}
use Rattle.datasets.specs.Dead.{newest_blocks}
use Rattle.datasets.specs.Clones.{below_in}
use Rattle.limits.specs.Forecasts.{count_after, count_before, IsOutlook, outlook_here}
use Rattle.limits.proofs.Forecasts.{outlook, asked_used_here}
use Rattle.limits.proofs.Replaced.{origin_high}
use Rattle.limits.proofs.Surveyed.{count_split as split}
use Rattle.limits.proofs.AskedNumbers.{once_of_pair}
use Rattle.limits.specs.Outlooks.{IsAhead, ahead}

-- a count of blocks that were let go
pub count_dead : (p : Block → Bool) (ds : List Dead) → count_by p (map dead_block ds) ≡ count_by (λ d. p (dead_block d)) ds
count_dead p [] = refl
count_dead p (d ∷ ds) =
    let a = sum_by-cons (λ b. cond {A = ℕ} (p b) 1 0) (dead_block d) (map dead_block ds) in
    let b = sum_by-cons (λ e. cond {A = ℕ} (p (dead_block e)) 1 0) d ds in
    let r = count_dead p ds in
    omega (arith, a, b, r)

newest_or : (x : Option SnapId) (y : Option Snap)
    → option_map_or (λ (i : SnapId). i.group) (option_or (option_map id_of y) x) 0 ≡ option_map_or (λ (t : Snap). t.group) y (option_map_or (λ (i : SnapId). i.group) x 0)
newest_or x None = refl
newest_or x (Some t) = refl

module _ (s : State) (c : Changes) (r : Row) (f : Forecast) (synced : ℕ) (is : IsAhead s c r f synced) where
  abbrev dropped : List Block
  dropped = map dead_block f.dropped.items

  look : IsOutlook s (ahead s c r) r.name r.system (record r.system { live = rewrite r.system.live c s.now.group (fresh_number s) }) dropped (length is.forecast.made)
  look = outlook s is.good r.name r.system is.there c dropped is.forecast.made is.forecast.survey

  -- the newest snapshot's group, or else the origin's
  pub base_is : base_of s.now (Live r.name) ≡ newest_group (origin_group r.system.origin) r.system.snaps
  unfolding base_of
  base_is = ap (λ x. option_map_or (λ (i : SnapId). i.group) x 0) (previous_of_live s.now s.now.group is.good.now.systems.lines r.name r.system is.there)
      ∙ newest_or r.system.origin (last_or None r.system.snaps)

  -- what the row tells of what was written
  pub written_is : size_without (blocks r.system.live) (newest_blocks (blocks r.below) r.system.snaps) ≡ written_of s.now (Live r.name)
  unfolding written_of
  written_is =
      ap (λ (m : Map). size_without (blocks r.system.live) (newest_blocks (blocks m) r.system.snaps)) is.below
      ∙ sym (λ i. size_without (blocks (map_of_live s.now r.name r.system is.there i)) (below i))
    where
      below : blocks (map_of_snap s.now (previous_of s.now (Live r.name))) ≡ newest_blocks (blocks (below_in s.now.file_systems r.system.origin)) r.system.snaps
      below = ap (λ x. blocks (map_of_snap s.now x)) (previous_of_live s.now s.now.group is.good.now.systems.lines r.name r.system is.there)
          ∙ newest_is s.now s.now.group is.good.now.systems.lines r.name r.system is.there r.system.snaps (λ u k. k)

  origin_is : r.below ≡ map_of_snap s.now r.system.origin
  origin_is = is.below ∙ sym (below_is_map s.now r.system.origin)

  -- of what it has of its own
  pub dataset_is : size_without (blocks r.system.live) (blocks r.below) ≡ used_by_dataset s.now r.system
  dataset_is = ap (λ (m : Map). size_without (blocks r.system.live) (blocks m)) origin_is

  pub snapshots_is : size_without (blocks_of_all (map (λ t. t.map) r.system.snaps)) (blocks_of_all (r.system.live ∷ r.below ∷ [])) ≡ used_by_snapshots s.now r.system
  snapshots_is = ap (λ (m : Map). size_without (blocks_of_all (map (λ t. t.map) r.system.snaps)) (blocks_of_all (r.system.live ∷ m ∷ []))) origin_is

  -- and of its live map
  pub referenced_is : map_len r.system.live ≡ referenced_of s.now (Live r.name)
  unfolding referenced_of
  referenced_is = sym (ap (λ (m : Map). len (blocks m)) (map_of_live s.now r.name r.system is.there)
      ∙ len-blocks r.system.live (once_of_pair s.size s.now s.last is.good.pair r.name r.system is.there))

  -- these are no more than all datasets have
  part_fits : (a b : BlockSet) → IsSubset a (union_of s.now) → size_without a b ≤ len (union_of s.now)
  part_fits a b inside =
      let d = len-difference o a b in
      let l = len-subset o a (union_of s.now) inside in
      omega (arith, d, l)

  inside : (ts : List Snap) → ((m : Map) → IsIn (map (λ (t : Snap). t.map) ts) m → IsIn (maps_of r.system) m) → IsSubset (blocks_of_all (map (λ (t : Snap). t.map) ts)) (union_of s.now)
  inside [] among k h = absurd (no-empty o k h)
  inside (t ∷ ts) among k h = ⊎_elim
      (λ i. in_union_of s.now r.name r.system t.map k is.there (among t.map (inl refl)) i)
      (λ i. inside ts (λ m j. among m (inr j)) k i)
      (from_union o (blocks t.map) (blocks_of_all (map (λ (t : Snap). t.map) ts)) k h)

  pub few_snapshots : used_by_snapshots s.now r.system < 2 ^ 32
  few_snapshots = let l = part_fits (blocks_of_all (map (λ t. t.map) r.system.snaps)) (blocks_of_all (r.system.live ∷ map_of_snap s.now r.system.origin ∷ [])) (inside r.system.snaps (λ m i. inr i)) in let u = is.few in omega (arith, l, u)

  -- ---- what goes

  pub own_is : count_by (λ d. nat_lt (newest_group (origin_group r.system.origin) r.system.snaps) d.birth.0) f.dropped.items ≡ count_after (base_of s.now (Live r.name)) (map dead_block f.dropped.items)
  own_is =
      sym (count_dead (λ b. nat_lt (newest_group (origin_group r.system.origin) r.system.snaps) b.birth) f.dropped.items)
      ∙ ap (λ g. count_after g (map dead_block f.dropped.items)) (sym base_is)

  pub waits_is : count_by (λ d. nat_lt (newest_group (origin_group r.system.origin) r.system.snaps) d.birth.0 && nat_lt d.birth.0 synced) f.dropped.items
      ≡ count_before (base_of s.now (Live r.name)) s.last.group (map dead_block f.dropped.items)
  waits_is =
      sym (count_dead (λ b. nat_lt (newest_group (origin_group r.system.origin) r.system.snaps) b.birth && nat_lt b.birth synced) f.dropped.items)
      ∙ (λ i. count_before (sym base_is i) (is.opened i) (map dead_block f.dropped.items))

  -- no more than was there or is made
  pub own_written : count_after (base_of s.now (Live r.name)) (map dead_block f.dropped.items) ≤ written_of s.now (Live r.name) + f.made
  own_written = let w = look.written in let n = is.forecast.count in omega (arith, w, n)

  pub own_held : count_after (base_of s.now (Live r.name)) (map dead_block f.dropped.items) ≤ used_by_dataset s.now r.system + used_by_snapshots s.now r.system + f.made
  own_held =
      let d = look.by_dataset in
      let n = is.forecast.count in
      let c = count_split (origin_high s.now is.good.now.systems r.name r.system is.there) in
      omega (arith, d, n, c)
    where
      count_split : origin_in r.system ≤ base_of s.now (Live r.name)
          → count_after (base_of s.now (Live r.name)) (map dead_block f.dropped.items) ≤ count_after (origin_in r.system) (map dead_block f.dropped.items)
      count_split low = let e = split (origin_in r.system) (base_of s.now (Live r.name)) (map dead_block f.dropped.items) low in omega (arith, e)

  pub gone_there : length f.dropped.items ≤ map_len r.system.live + f.made
  gone_there =
      let l = look.referenced in
      let n = is.forecast.count in
      let m = length-map f.dropped.items dead_block in
      let e = referenced_is in
      omega (arith, l, n, m, e)

  -- ---- what comes

  pub here_after : used_here (ahead s c r) r.name
      ≡ (used_by_dataset s.now r.system + used_by_snapshots s.now r.system + f.made - count_after (base_of s.now (Live r.name)) (map dead_block f.dropped.items))
      + (unwrap_or r.system.limits.refreservation 0 - (written_of s.now (Live r.name) + f.made - count_after (base_of s.now (Live r.name)) (map dead_block f.dropped.items)))
  here_after =
      asked_used_here s is.good r.name r.system is.there c (map dead_block f.dropped.items) is.forecast.made is.forecast.survey
      ∙ ap (λ n. outlook_here s r.name r.system (map dead_block f.dropped.items) n) (sym is.forecast.count)

  pub referenced_after : map_len r.system.live + f.made - length f.dropped.items ≡ referenced_of (ahead s c r) (Live r.name)
  referenced_after =
      let l = look.referenced in
      let n = is.forecast.count in
      let m = length-map f.dropped.items dead_block in
      let e = referenced_is in
      omega (arith, l, n, m, e)

  pub waiting_after : len (waiting_of s) + count_before (base_of s.now (Live r.name)) s.last.group (map dead_block f.dropped.items) ≡ len (waiting_of (with_now s (ahead s c r)))
  waiting_after = sym look.waiting

  pub written_after : written_of (ahead s c r) (Live r.name) ≡ written_of s.now (Live r.name) + f.made - count_after (base_of s.now (Live r.name)) (map dead_block f.dropped.items)
  written_after = let w = look.written in let n = is.forecast.count in omega (arith, w, n)
