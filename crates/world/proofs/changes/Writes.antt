-- A change of one live map keeps what holds between two steps.
use Rattle.std.proofs.Common.{◌≡◌, ℕ, ◌<◌, Bool, true, Some, sym, ap, subst, ◌∙◌, true≢false, ◌⊎◌, inl, inr, ⊎_elim, arith}
use Rattle.std.specs.FinMap.{get, insert}
use Rattle.std.specs.FinSet.{union, difference}
use Rattle.base.specs.declared.number.Key.{Key}
use Rattle.base.specs.Map.{Map, Cell, Block, BlockSet, block_of, blocks, IsTree}
use Rattle.model.specs.World.{World, FileSystem, Dataset, Live, map_of, union_of, reach_of}
use Rattle.world.specs.Sets.{Has}
use Rattle.world.specs.Blocks.{block_order as o, after}
use Rattle.world.specs.Reach.{AreNumbersUnique}
use Rattle.world.specs.Lineage.{Row}
use Rattle.world.specs.Shapes.{Name, IsGood}
use Rattle.world.specs.Worlds.{shapes, AreFileSystems, IsWorld, ArePaired, AreReached, AreCellsOne, InNow, maps_of_both}
use Rattle.world.specs.Numbering.{ChangesKeys}
use Rattle.world.specs.Writes.{IsReusable, IsChosen}
use Rattle.world.specs.Dead.{base_of}
use Rattle.world.proofs.lists.SetCounts.{Has-cases, in_union_left, in_union_right, from_union}
use Rattle.world.proofs.lists.Maps.{same_value}
use Rattle.world.proofs.lineage.Lineage.{from_after}
use Rattle.world.proofs.maps.Cells.{in_blocks, from_new_blocks}
use Rattle.world.proofs.lineage.Bridge.{map_of_live, in_world, union_is}
use Rattle.world.proofs.changes.Kept.{reach_is}
use Rattle.world.proofs.changes.LiveMaps.{row_alone, live_new, live_rest}
use Rattle.world.proofs.changes.TableWrites.{live_systems, live_step, live_loses}

module _ (size : ℕ) (w last : World) (good : IsWorld size w) (synced : IsWorld size last) (pair : ArePaired size w last) (name : Name) (s : FileSystem) (at : get w.file_systems name ≡ Some s)
    (m : Map) (touched : Key → Bool) (number : Key → ℕ) (change : ChangesKeys s.live m touched w.group number) (tree : IsTree size m)
    (chosen : IsChosen s.live m (after (base_of w (Live name)) (blocks s.live)) (reach_of w) (reach_of last) size touched number) where
  abbrev lines : IsGood (shapes w.file_systems) w.group
  lines = good.systems.lines

  abbrev pub with_map : World
  with_map = record w { file_systems = insert w.file_systems name (record s { live = m }) }

  abbrev own : BlockSet
  own = after (base_of w (Live name)) (blocks s.live)

  -- ---- blocks

  live_in_union : (b : Block) → Has (blocks s.live) b → Has (union_of w) b
  live_in_union b h = in_world w w.group lines (Live name) b (subst (λ x. Has (blocks x) b) (sym (map_of_live w name s at)) h)

  in_reach : (b : Block) → Has (union_of w) b → Has (reach_of w) b
  in_reach b h = subst (λ x. Has x b) (sym (reach_is w)) (in_union_left o (union_of w) w.freeing b h)

  live_in_reach : (b : Block) → Has (blocks s.live) b → Has (reach_of w) b
  live_in_reach b h = in_reach b (live_in_union b h)

  record IsNew (b : Block) : Type 0 where
    key : Key
    cell : Cell
    there : get m key ≡ Some cell
    at_touched : touched key ≡ true
    is : block_of cell ≡ b
    number_is : b.number ≡ number key
    birth_is : b.birth ≡ w.group

  -- each number of the live map is one key's
  one_key : (j k : Key) (a b : Cell) → get s.live j ≡ Some a → get s.live k ≡ Some b → a.number ≡ b.number → j ≡ k
  one_key j k a b h i n =
      let e = map_of_live w name s at in
      (pair.cells (InNow (Live name)) (InNow (Live name)) j k a b (ap (λ x. get x j) e ∙ h) (ap (λ x. get x k) e ∙ i) n).0

  reused_touched : (j : Key) (b : Cell) → get s.live j ≡ Some b → IsReusable s.live own (reach_of last) touched (block_of b) → touched j ≡ true
  reused_touched j b h r = ap touched (one_key j r.key b r.cell h r.there (ap (λ (x : Block). x.number) (sym r.is))) ∙ r.leaves

  reused_own : (b : Block) → IsReusable s.live own (reach_of last) touched b → Has (blocks s.live) b
  reused_own b r = (from_after (base_of w (Live name)) (blocks s.live) b r.alone).0

  from_map : (b : Block) → Has (blocks m) b → (Has (blocks s.live) b × (IsReusable s.live own (reach_of last) touched b → ⊥)) ⊎ IsNew b
  from_map b h = ⊎_elim
      (λ x. inl (
        subst (λ y. Has (blocks s.live) y) x.3 (in_blocks s.live x.0 x.1 x.2),
        λ r. true≢false (sym (reused_touched x.0 x.1 x.2 (subst (λ y. IsReusable s.live own (reach_of last) touched y) (sym x.3) r)) ∙ x.4),
      ))
      (λ x. inr (record { key = x.0; cell = x.1; there = x.2; at_touched = x.3; is = x.4; number_is = x.5; birth_is = x.6 }))
      (from_new_blocks s.live m touched w.group number change b h)

  -- a new block that is reached already was the live map's
  new_reached : (b : Block) → IsNew b → Has (reach_of w) b → Has (blocks s.live) b
  new_reached b x h = reused_own b (chosen.allowed x.key x.cell b x.at_touched x.there (in_union_left o (reach_of w) (reach_of last) b h) x.number_is)

  new_or_old : (b : Block) → Has (blocks m) b → Has (blocks s.live) b ⊎ ((b.birth ≡ w.group) × ¬ (Has (union_of w) b))
  new_or_old b h = ⊎_elim
      (λ x. inl x.0)
      (λ x. ⊎_elim (λ k. inl (new_reached b x (in_reach b k))) (λ out. inr (x.birth_is, out)) (Has-cases o (union_of w) b))
      (from_map b h)

  write_systems : AreFileSystems (insert w.file_systems name (record s { live = m })) w.group
  write_systems = live_systems w good.systems name s at m new_or_old

  -- what is lost are the blocks that the live map alone had, and the new one hasn't
  pub write_loses : difference (union_of w) (union_of with_map) ≡ difference (after (base_of w (Live name)) (blocks s.live)) (blocks m)
  write_loses = live_loses w good.systems name s at m new_or_old

  -- ---- what is reached

  -- a block afterwards is the new map's, or is another's
  pub union_after : (b : Block) → Has (union_of with_map) b → Has (blocks m) b ⊎ (Has (union_of w) b × ¬ (Has own b))
  union_after b h =
      let r = (union_is with_map w.group write_systems.lines).reached b h in
      ⊎_elim
      (λ k. inl (subst (λ (x : Row Dataset). Has x.blocks b) k.1 r.3))
      (λ k. inr (
        (union_is w w.group lines).within r.0 r.1 b k.1 r.3,
        λ i. let x = from_after (base_of w (Live name)) (blocks s.live) b i in k.0 (row_alone w good.systems name s at r.0 r.1 b k.1 r.3 x.0 x.1),
      ))
      ((live_step w good.systems name s at m new_or_old).new r.0 r.1 r.2)

  own_reached : (b : Block) → Has own b → Has (union_of w) b
  own_reached b h = live_in_union b (from_after (base_of w (Live name)) (blocks s.live) b h).0

  record IsOld (b : Block) : Type 0 where
    in_both : Has (union (reach_of w) (reach_of last)) b
    stays : IsReusable s.live own (reach_of last) touched b → ⊥

  from_reach : (b : Block) → Has (reach_of with_map) b → (Has (reach_of w) b × IsOld b) ⊎ IsNew b
  from_reach b h = ⊎_elim
      (λ k. ⊎_elim
      (λ x. ⊎_elim (λ y. inl (live_in_reach b y.0, record { in_both = in_union_left o (reach_of w) (reach_of last) b (live_in_reach b y.0); stays = y.1 })) (λ y. inr y) (from_map b x))
      (λ x. inl (in_reach b x.0, record { in_both = in_union_left o (reach_of w) (reach_of last) b (in_reach b x.0); stays = λ r. x.1 r.alone }))
      (union_after b k))
      (λ k. let i = subst (λ x. Has x b) (sym (reach_is w)) (in_union_right o (union_of w) w.freeing b k) in
      inl (i, record { in_both = in_union_left o (reach_of w) (reach_of last) b i; stays = λ r. good.freeing_apart b (own_reached b r.alone) k }))
      (from_union o (union_of with_map) w.freeing b (subst (λ x. Has x b) (reach_is with_map) h))

  origin : (b : Block) → Has (union (reach_of with_map) (reach_of last)) b → IsOld b ⊎ IsNew b
  origin b h = ⊎_elim
      (λ l. ⊎_elim (λ x. inl x.1) (λ x. inr x) (from_reach b l))
      (λ l. inl (record { in_both = in_union_right o (reach_of w) (reach_of last) b l; stays = λ r. r.new l }))
      (from_union o (reach_of with_map) (reach_of last) b h)

  unique' : AreNumbersUnique (union (reach_of with_map) (reach_of last))
  unique' a b h i n = ⊎_elim
      (λ x. ⊎_elim (λ y. pair.reached.unique a b x.in_both y.in_both n) (λ y. absurd (meets a b x y n)) (origin b i))
      (λ x. ⊎_elim (λ y. absurd (meets b a y x (sym n))) (λ y. both x y) (origin b i))
      (origin a h)
    where
      meets : (a b : Block) → IsOld a → IsNew b → a.number ≡ b.number → ⊥
      meets a b x y n = x.stays (chosen.allowed y.key y.cell a y.at_touched y.there x.in_both (n ∙ y.number_is))

      both : IsNew a → IsNew b → a ≡ b
      both x y =
          let same = chosen.once x.key y.key x.cell y.cell x.at_touched y.at_touched x.there y.there (sym x.number_is ∙ n ∙ y.number_is) in
          sym x.is ∙ ap block_of (same_value _ _ (sym x.there ∙ ap (λ i. get m i) same ∙ y.there)) ∙ y.is

  reached' : AreReached (reach_of with_map) (reach_of last) last.group w.group size
  reached' = record {
    unique = unique';
    small = λ b h. ⊎_elim
        (λ x. pair.reached.small b x.in_both)
        (λ x. subst (λ n. n < size) (sym x.number_is) (chosen.small x.key x.cell x.at_touched x.there))
        (origin b h);
    since = record {
      older = pair.reached.since.older;
      later = pair.reached.since.later;
      stays = λ b h l. ⊎_elim (λ x. pair.reached.since.stays b x.0 l) (λ x. let k = pair.reached.since.later in let e = x.birth_is in absurd (omega arith)) (from_reach b h);
    };
    born = λ b h. ⊎_elim (λ x. pair.reached.born b x.0) (λ x. let e = x.birth_is in omega arith) (from_reach b h);
  }

  pub write_pairs : AreCellsOne (maps_of_both with_map last) → ArePaired size (record w { file_systems = insert w.file_systems name (record s { live = m }) }) last
  write_pairs cells = record { cells = cells; reached = reached' }

  pub write_world : IsWorld size with_map
  write_world = record {
    systems = write_systems;
    trees = λ d. ⊎_elim
        (λ x. subst (IsTree size) (sym x.1) (good.trees d))
        (λ x. subst (IsTree size) (ap (map_of with_map) (sym x)) (subst (IsTree size) (sym (live_new w good.systems name s at m write_systems.lines)) tree))
        (live_rest w good.systems name s at m write_systems.lines d);
    freeing_apart = λ b h k. ⊎_elim
        (λ x. ⊎_elim
        (λ y. good.freeing_apart b (live_in_union b y.0) k)
        (λ y. good.freeing_apart b (live_in_union b (new_reached b y (subst (λ z. Has z b) (sym (reach_is w)) (in_union_right o (union_of w) w.freeing b k)))) k)
        (from_map b x))
        (λ x. good.freeing_apart b x.0 k)
        (union_after b h);
  }
