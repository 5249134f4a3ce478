-- Where each map of a later world is one of an earlier world, what holds of trees and numbers holds again.
use Rattle.std.proofs.Common.{◌≡◌, ℕ, ◌<◌, ◌≤◌, Option, Some, None, refl, sym, ap, subst, ◌∙◌, ◌⊎◌, inl, inr, ⊎_elim, true≢false, arith}
use Rattle.std.specs.Prelude.{IsSome, IfSome, is_some}
use Rattle.std.specs.FinMap.{get, get-empty}
use Rattle.std.specs.FinMap as finmap
use Rattle.std.specs.FinSet.{union}
use Rattle.base.specs.declared.number.Key.{Key}
use Rattle.base.specs.Key.{key_cmp}
use Rattle.base.specs.Map.{Map, Cell, Block, BlockSet, IsTree, HasBytes, blocks}
use Rattle.base.specs.Surveys.{IsIn}
use Rattle.model.specs.World.{World, FileSystem, Snap, Dataset, Live, Snapped, id_of, snap_at, map_of, maps_of, union_of}
use Rattle.world.specs.Sets.{Has, IsSubset}
use Rattle.world.specs.Blocks.{block_order as o}
use Rattle.world.specs.Shapes.{Name, IsGood}
use Rattle.world.specs.Worlds.{shapes, AreCellsOne, AreMapsFrom, AreReached, Place, InNow, InLast, maps_of_both}
use Rattle.world.proofs.lists.Maps.{no_value}
use Rattle.world.proofs.lists.SetCounts.{in_union_left, in_union_right, from_union}
use Rattle.world.proofs.lists.Listed.{in_map, map_in}
use Rattle.world.proofs.lineage.Bridge.{map_of_live, map_of_kept, map_of_gone, map_of_absent, map_of_found, from_snap_at, in_union_of, from_union_of, no_block}

-- the empty map is a tree
no_key : {X : Type 0} (k : Key) → IsSome (get {X = Cell} (finmap.empty {R = key_cmp}) k) → X
no_key k h = absurd (true≢false (sym (sym (ap is_some (get-empty {X = Cell} key_cmp k)) ∙ h)))

pub none_tree : (size : ℕ) → IsTree size finmap.empty
none_tree size = record {
  keys = λ k h. no_key k h;
  cells = λ k. subst (λ x. IfSome x (λ c. (c.number < size) × HasBytes k c)) (sym (get-empty key_cmp k)) tt;
  parents = λ k h l. no_key k h;
  children = λ k h l. no_key k h;
}

-- a family of maps drawn from another
module _ {D E : Type 0} (old : D → Map) (new : E → Map) (drawn : (e : E) → (new e ≡ finmap.empty) ⊎ ((d : D) × (new e ≡ old d))) where
  pub cells_from : AreCellsOne old → AreCellsOne new
  cells_from one d e j k a b h g n = ⊎_elim
      (λ x. absurd (no_value a (sym (get-empty key_cmp j) ∙ ap (λ m. get m j) (sym x) ∙ h)))
      (λ x. ⊎_elim
      (λ y. absurd (no_value b (sym (get-empty key_cmp k) ∙ ap (λ m. get m k) (sym y) ∙ g)))
      (λ y.
      let r = one x.0 y.0 j k a b (ap (λ m. get m j) (sym x.1) ∙ h) (ap (λ m. get m k) (sym y.1) ∙ g) n in
      (r.0, r.1, λ q l. ap (λ m. get m q) x.1 ∙ r.2 q l ∙ ap (λ m. get m q) (sym y.1)))
      (drawn e))
      (drawn d)

module _ (w new : World) (g : ℕ) (good : IsGood (shapes w.file_systems) g) (from : AreMapsFrom w.file_systems new.file_systems) where
  -- the map of an old file system is that of an old dataset
  dataset_of_map : (name : Name) (s : FileSystem) (m : Map) → get w.file_systems name ≡ Some s → IsIn (maps_of s) m → (d : Dataset) × (m ≡ map_of w d)
  dataset_of_map name s m at h = ⊎_elim
      (λ (e : m ≡ s.live). (Live name, e ∙ sym (map_of_live w name s at)))
      (λ k.
      let t = in_map (λ (t : Snap). t.map) s.snaps m k in
      (Snapped (id_of t.0), t.2 ∙ sym (map_of_kept w g good name s t.0 (id_of t.0) at t.1 refl)))
      h

  pub drawn : (e : Dataset) → (map_of new e ≡ finmap.empty) ⊎ ((d : Dataset) × (map_of new e ≡ map_of w d))
  drawn (Live name) = at (get new.file_systems name) refl
    where
      at : (x : Option FileSystem) → get new.file_systems name ≡ x → (map_of new (Live name) ≡ finmap.empty) ⊎ ((d : Dataset) × (map_of new (Live name) ≡ map_of w d))
      at None e = inl (map_of_gone new name e)
      at (Some s) e = ⊎_elim
          (λ k. inl (map_of_live new name s e ∙ k))
          (λ k. let d = dataset_of_map k.0 k.1 s.live k.2 k.3 in inr (d.0, map_of_live new name s e ∙ d.1))
          (from name s s.live e (inl refl))
  drawn (Snapped id) = at (snap_at new id) refl
    where
      at : (x : Option (Name × Snap)) → snap_at new id ≡ x → (map_of new (Snapped id) ≡ finmap.empty) ⊎ ((d : Dataset) × (map_of new (Snapped id) ≡ map_of w d))
      at None e = inl (map_of_absent new id e)
      at (Some p) e =
          let k = from_snap_at new id p e in
          ⊎_elim
          (λ i. inl (map_of_found new id p e ∙ i))
          (λ i. let d = dataset_of_map i.0 i.1 p.1.map i.2 i.3 in inr (d.0, map_of_found new id p e ∙ d.1))
          (from p.0 k.0 p.1.map k.1 (inr (map_in (λ (t : Snap). t.map) k.0.snaps p.1 k.2)))

  pub trees_from : (size : ℕ) → ((d : Dataset) → IsTree size (map_of w d)) → (e : Dataset) → IsTree size (map_of new e)
  trees_from size trees e = ⊎_elim
      (λ x. subst (IsTree size) (sym x) (none_tree size))
      (λ x. subst (IsTree size) (sym x.1) (trees x.0))
      (drawn e)

  pub union_from : IsSubset (union_of new) (union_of w)
  union_from b h =
      let r = from_union_of new b h in
      ⊎_elim
      (λ (k : r.2 ≡ finmap.empty). absurd (no_block b (subst (λ m. Has (blocks m) b) k r.5)))
      (λ k. in_union_of w k.0 k.1 r.2 b k.2 k.3 r.5)
      (from r.0 r.1 r.2 r.3 r.4)

  -- the maps of both worlds
  pub both_from : (last : World) (p : Place) → (maps_of_both new last p ≡ finmap.empty) ⊎ ((q : Place) × (maps_of_both new last p ≡ maps_of_both w last q))
  both_from last (InNow e) = ⊎_elim (λ x. inl x) (λ x. inr (InNow x.0, x.1)) (drawn e)
  both_from last (InLast e) = inr (InLast e, refl)

  pub both_cells : (last : World) → AreCellsOne (maps_of_both w last) → AreCellsOne (maps_of_both new last)
  both_cells last = cells_from (maps_of_both w last) (maps_of_both new last) (both_from last)

-- fewer blocks are reached
pub reached_fewer : (now less last : BlockSet) (synced g h size : ℕ) → IsSubset less now → g ≤ h → AreReached now last synced g size → AreReached less last synced h size
reached_fewer now less last synced g h size sub up r = record {
  unique = λ a b i j. r.unique a b (wider a i) (wider b j);
  small = λ b i. r.small b (wider b i);
  since = record { older = r.since.older; later = let l = r.since.later in omega arith; stays = λ b i. r.since.stays b (sub b i) };
  born = λ b i. let l = r.born b (sub b i) in omega arith;
}
  where
    wider : (b : Block) → Has (union less last) b → Has (union now last) b
    wider b i = ⊎_elim (λ k. in_union_left o now last b (sub b k)) (λ k. in_union_right o now last b k) (from_union o less last b i)
