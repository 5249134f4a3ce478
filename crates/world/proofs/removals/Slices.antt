-- A slice of what is to be freed, the way back to the last synced world, and the first state.
use Rattle.std.proofs.Common.{◌≡◌, ℕ, ◌+◌, ◌≤◌, cond, Bool, true, false, List, [], Option, Some, None, refl, sym, ap, subst, ◌∙◌, true≢false, ◌⊎◌, inl, inr, ⊎_elim, arith}
use Rattle.std.specs.Prelude.{IsSome, IsTrue, is_some}
use Rattle.std.specs.Option.{option_map}
use Rattle.std.specs.FinMap.{get, insert, len, len-insert, len-empty, get-empty}
use Rattle.std.specs.FinMap as finmap
use Rattle.std.specs.FinSet.{union, difference}
use Rattle.std.specs.FinSet as set
use Rattle.std.specs.Ordering.{nat_cmp}
use Rattle.base.specs.Names.{name_cmp, root_name}
use Rattle.base.specs.declared.number.Key.{Key}
use Rattle.base.specs.Key.{key_cmp}
use Rattle.base.specs.Map.{Cell, Block, BlockSet, IsTree, blocks}
use Rattle.base.specs.Surveys.{IsIn, AreDifferent}
use Rattle.std.specs.FinSet.{from_list}
use Rattle.std.proofs.lemmas.Bool.{ltb-true, lt-ltb}
use Rattle.world.specs.Plans.{IsSettling}
use Rattle.world.proofs.lists.Lists.{in_listed, from_listed}
use Rattle.model.specs.World.{World, FileSystem, Snap, snap_at, Dataset, Live, Snapped, map_of, maps_of, empty_file_system, union_of, reach_of}
use Rattle.model.specs.State.{fresh_world, fresh_state}
use Rattle.world.specs.Sets.{Has, IsSubset}
use Rattle.world.specs.Blocks.{block_order as o}
use Rattle.world.specs.Shapes.{Name, name_order}
use Rattle.model.specs.Hierarchy.{has_parent}
use Rattle.world.specs.Worlds.{FileSystems, shape_of, shapes, AreFileSystems, IsTidy, IsWorld, ArePaired, Place, InNow, InLast, maps_of_both, IsPoolState}
use Rattle.world.proofs.lists.SetCounts.{in_union_left, in_union_right, from_union, in_difference, from_difference, no-empty}
use Rattle.world.proofs.lists.Maps.{no_value}
use Rattle.world.proofs.lineage.Chains.{fresh_is_good}
use Rattle.world.proofs.lineage.Bridge.{map_of_gone, map_of_live, map_of_absent, from_snap_at, no_block, blocks_none, from_union_of}
use Rattle.world.proofs.changes.Creations.{bare_tidy}
use Rattle.world.proofs.changes.Drawn.{cells_from, reached_fewer, none_tree}
use Rattle.world.proofs.changes.Kept.{reach_is, union-fields}
use Rattle.world.proofs.lineage.Put.{put_here, put_cases, put_shape, put_shapes}

-- ---- a slice

module _ (size : ℕ) (w : World) (good : IsWorld size w) (taken : BlockSet) where
  abbrev pub sliced : World
  sliced = record w { freeing = difference w.freeing taken }

  same_map_of : (d : Dataset) → map_of sliced d ≡ map_of w d
  unfolding map_of
  same_map_of (Live name) = refl
  same_map_of (Snapped id) = refl

  fewer : IsSubset (reach_of sliced) (reach_of w)
  fewer b h = subst (λ s. Has s b) (sym (reach_is w)) (⊎_elim
      (λ k. in_union_left o (union_of w) w.freeing b (subst (λ s. Has s b) (union-fields sliced w refl) k))
      (λ k. in_union_right o (union_of w) w.freeing b (from_difference o w.freeing taken b k).0)
      (from_union o (union_of sliced) (difference w.freeing taken) b (subst (λ s. Has s b) (reach_is sliced) h)))

  pub slice_world : IsWorld size sliced
  slice_world = record {
    systems = good.systems;
    trees = λ d. subst (IsTree size) (sym (same_map_of d)) (good.trees d);
    freeing_apart = λ b h k. good.freeing_apart b (subst (λ s. Has s b) (union-fields sliced w refl) h) (from_difference o w.freeing taken b k).0;
  }

  pub slice_pairs : (last : World) → ArePaired size w last → ArePaired size sliced last
  slice_pairs last pair = record {
    cells = cells_from (maps_of_both w last) (maps_of_both sliced last) from pair.cells;
    reached = reached_fewer (reach_of w) (reach_of sliced) (reach_of last) last.group w.group w.group size fewer (omega arith) pair.reached;
  }
    where
      from : (p : Place) → (maps_of_both sliced last p ≡ finmap.empty) ⊎ ((q : Place) × (maps_of_both sliced last p ≡ maps_of_both w last q))
      from (InNow d) = inr (InNow d, same_map_of d)
      from (InLast d) = inr (InLast d, refl)

-- ---- back to the last synced world

-- ---- the first state

abbrev first_systems : FileSystems
first_systems = insert finmap.empty root_name empty_file_system

first_at : (q : Name) (x : FileSystem) → get first_systems q ≡ Some x → (q ≡ root_name) × (x ≡ empty_file_system)
first_at q x h = ⊎_elim
    (λ k. k)
    (λ k. absurd (no_value x (sym (get-empty name_cmp q) ∙ k.1)))
    (put_cases finmap.empty root_name empty_file_system q x h)

first_good : AreFileSystems first_systems 1
first_good = record {
  lines = fresh_is_good (shapes first_systems) root_name 1 (omega arith)
      (put_shape finmap.empty root_name empty_file_system ∙ ap (λ s. Some (record { live = s; snapshots = []; origin = None })) blocks_none)
      (λ other ne. put_shapes finmap.empty root_name empty_file_system other ne ∙ ap (option_map shape_of) (get-empty name_cmp other));
  hierarchy = record {
    root = ap is_some (put_here finmap.empty root_name empty_file_system);
    parents = λ q h. by_there q (get first_systems q) refl h;
    few =
        let e = len-insert name_order.total (finmap.empty {X = FileSystem}) root_name empty_file_system in
        let z = len-empty name_cmp FileSystem in
        small _ e z;
  };
  tidy = λ q x h. subst (λ y. IsTidy 1 y) (sym (first_at q x h).1) (bare_tidy 1 finmap.empty None);
}
  where
    by_there : (q : Name) (x : Option FileSystem) → get first_systems q ≡ x → IsSome (get first_systems q) → (q ≡ root_name) ⊎ IsTrue (has_parent first_systems q)
    by_there q None e h = absurd (true≢false (sym h ∙ ap is_some e))
    by_there q (Some x) e h = inl (first_at q x e).0

    small : (b : Bool) → len first_systems ≡ cond b (len (finmap.empty {X = FileSystem} {R = name_cmp})) (len (finmap.empty {X = FileSystem} {R = name_cmp}) + 1) → len (finmap.empty {X = FileSystem} {R = name_cmp}) ≡ 0 → len first_systems ≤ 1024
    small true e z = omega arith
    small false e z = omega arith

module _ (id size : ℕ) where
  abbrev first : World
  first = record { file_systems = first_systems; freeing = set.empty; group = 1 }

  no_first_block : (b : Block) → ¬ (Has (union_of first) b)
  no_first_block b h =
      let r = from_union_of first b h in
      let k = first_at r.0 r.1 r.3 in
      ⊎_elim
      (λ (e : r.2 ≡ finmap.empty). no_block b (subst (λ m. Has (blocks m) b) e r.5))
      (λ i. absurd i)
      (subst (λ (x : FileSystem). IsIn (maps_of x) r.2) k.1 r.4)

  pub none_reached : (b : Block) → ¬ (Has (reach_of first) b)
  none_reached b h = ⊎_elim (λ k. no_first_block b k) (λ k. no-empty o b k) (from_union o (union_of first) set.empty b (subst (λ s. Has s b) (reach_is first) h))

  first_map : (d : Dataset) → map_of first d ≡ finmap.empty
  first_map (Live q) = by_there (get first_systems q) refl
    where
      by_there : (x : Option FileSystem) → get first_systems q ≡ x → map_of first (Live q) ≡ finmap.empty
      by_there None e = map_of_gone first q e
      by_there (Some x) e = map_of_live first q x e ∙ ap (λ (y : FileSystem). y.live) (first_at q x e).1
  first_map (Snapped i) = by_snap (snap_at first i) refl
    where
      by_snap : (x : Option (Name × Snap)) → snap_at first i ≡ x → map_of first (Snapped i) ≡ finmap.empty
      by_snap None e = map_of_absent first i e
      by_snap (Some p) e =
          let k = from_snap_at first i p e in
          absurd (subst (λ (x : FileSystem). IsIn x.snaps p.1) (first_at p.0 k.0 k.1).1 k.2)

  first_world : IsWorld size first
  first_world = record {
    systems = first_good;
    trees = λ d. subst (IsTree size) (sym (first_map d)) (none_tree size);
    freeing_apart = λ b h k. no_first_block b h;
  }

  first_pair : ArePaired size first first
  first_pair = record {
    cells = λ d e j k a b h g n. absurd (none d j a h);
    reached = record {
      unique = λ a b h g n. absurd (none_both a h);
      small = λ b h. absurd (none_both b h);
      since = record { older = λ b h. absurd (none_reached b h); later = omega arith; stays = λ b h l. h };
      born = λ b h. absurd (none_reached b h);
    };
  }
    where
      none : (p : Place) (j : Key) (a : Cell) → get (maps_of_both first first p) j ≡ Some a → ⊥
      none (InNow d) j a h = no_value a (sym (get-empty key_cmp j) ∙ ap (λ m. get m j) (sym (first_map d)) ∙ h)
      none (InLast d) j a h = no_value a (sym (get-empty key_cmp j) ∙ ap (λ m. get m j) (sym (first_map d)) ∙ h)

      none_both : (b : Block) → Has (union (reach_of first) (reach_of first)) b → ⊥
      none_both b h = ⊎_elim (λ k. none_reached b k) (λ k. none_reached b k) (from_union o (reach_of first) (reach_of first) b h)

  -- what holds between two steps holds of a pool as it is created
  pub fresh_keeps : IsPoolState (fresh_state id size)
  unfolding fresh_state fresh_world
  fresh_keeps = record {
    now = first_world;
    last = first_world;
    pair = first_pair;
    views = λ v i h. absurd (no_value i (sym (get-empty nat_cmp v) ∙ h));
  }

-- ---- what a slice releases

module _ (size : ℕ) (w last : World) (good : IsWorld size w) (pair : ArePaired size w last) (ts : List Block) (once : AreDifferent ts) (inside : (b : Block) → IsIn ts b → Has w.freeing b) where
  abbrev out : BlockSet
  out = from_list ts

  in_reach : (b : Block) → Has (union_of w) b ⊎ Has w.freeing b → Has (reach_of w) b
  in_reach b h = subst (λ s. Has s b) (sym (reach_is w)) (⊎_elim (λ k. in_union_left o (union_of w) w.freeing b k) (λ k. in_union_right o (union_of w) w.freeing b k) h)

  -- the members that are taken leave what is reached, and no other block does
  left_reach : (b : Block) → Has (reach_of (record w { freeing = difference w.freeing (from_list ts) })) b → Has (reach_of w) b × (IsIn ts b → ⊥)
  left_reach b h = ⊎_elim
      (λ k. let u = subst (λ s. Has s b) (union-fields (sliced size w good out) w refl) k in (in_reach b (inl u), λ i. good.freeing_apart b u (inside b i)))
      (λ k. let d = from_difference o w.freeing out b k in (in_reach b (inr d.0), λ i. d.1 (in_listed o ts b i)))
      (from_union o (union_of (sliced size w good out)) (difference w.freeing out) b (subst (λ s. Has s b) (reach_is (sliced size w good out)) h))

  still_reach : (b : Block) → Has (reach_of w) b → (IsIn ts b → ⊥) → Has (reach_of (record w { freeing = difference w.freeing (from_list ts) })) b
  still_reach b h n = subst (λ s. Has s b) (sym (reach_is (sliced size w good out))) (⊎_elim
      (λ k. in_union_left o (union_of (sliced size w good out)) (difference w.freeing out) b (subst (λ s. Has s b) (sym (union-fields (sliced size w good out) w refl)) k))
      (λ k. in_union_right o (union_of (sliced size w good out)) (difference w.freeing out) b (in_difference o w.freeing out b k (λ i. n (from_listed o ts b i))))
      (from_union o (union_of w) w.freeing b (subst (λ s. Has s b) (reach_is w) h)))

  pub slice_settles : IsSettling (reach_of w) (reach_of (record w { freeing = difference w.freeing (from_list ts) })) (reach_of last) last.group ts []
  slice_settles = record {
    unique = pair.reached.unique;
    there = λ b i. in_reach b (inr (inside b i));
    came = λ b h. let k = left_reach b h in inl (b, k.0, refl, k.1);
    stays = λ b h n. let k = still_reach b h n in ((b, k, refl), λ l. k);
    made = λ n i. absurd i;
    waits = λ b h. (λ l. lt-ltb b.birth last.group (pair.reached.since.older b l), λ t. pair.reached.since.stays b h (ltb-true b.birth last.group t));
    once = once;
    taken_once = tt;
  }
