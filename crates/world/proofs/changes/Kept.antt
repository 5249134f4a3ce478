-- What every step has in common: trees and numbers of a world whose maps are an earlier world's, and what joins `freeing`.
use Rattle.std.proofs.Common.{◌≡◌, ℕ, ◌≤◌, refl, sym, ap, subst, ◌∙◌, ⊎_elim}
use Rattle.std.specs.FinSet.{union, difference}
use Rattle.std.specs.List.{flat_map}
use Rattle.std.specs.FinMap.{values}
use Rattle.model.specs.World.{World, maps_of, blocks_of_all, union_of, reach_of}
use Rattle.model.specs.Edits.{with_losses}
use Rattle.world.specs.Sets.{Has, IsSubset, AreDisjoint}
use Rattle.world.specs.Blocks.{block_order as o}
use Rattle.world.specs.Shapes.{IsGood}
use Rattle.world.specs.Worlds.{shapes, AreFileSystems, IsWorld, ArePaired, AreMapsFrom}
use Rattle.world.proofs.lists.SetCounts.{in_union_left, in_union_right, from_union}
use Rattle.world.proofs.lists.Lists.{freeing_keeps_reach}
use Rattle.world.proofs.changes.Drawn.{trees_from, union_from, both_cells, reached_fewer}

-- ---- reach

pub reach_is : (w : World) → reach_of w ≡ union (union_of w) w.freeing
unfolding reach_of
reach_is w = refl

-- what a world reaches hangs on its file systems and on what is to be freed
pub union-fields : (w v : World) → w.file_systems ≡ v.file_systems → union_of w ≡ union_of v
unfolding union_of
union-fields w v e = ap (λ x. blocks_of_all (flat_map maps_of (values x))) e

-- ---- a world whose maps are an earlier world's

module _ (size : ℕ) (w new : World) (good : IsWorld size w) (from : AreMapsFrom w.file_systems new.file_systems) where
  lines : IsGood (shapes w.file_systems) w.group
  lines = good.systems.lines

  pub fewer_blocks : IsSubset (union_of new) (union_of w)
  fewer_blocks = union_from w new w.group lines from

  -- nothing joins `freeing`
  pub world_same : AreFileSystems new.file_systems new.group → new.freeing ≡ w.freeing → IsWorld size new
  world_same systems freeing = record {
    systems = systems;
    trees = trees_from w new w.group lines from size good.trees;
    freeing_apart = λ b h k. good.freeing_apart b (fewer_blocks b h) (subst (λ s. Has s b) freeing k);
  }

  pub pair_same : (last : World) → new.freeing ≡ w.freeing → w.group ≤ new.group → ArePaired size w last → ArePaired size new last
  pair_same last freeing up pair = record {
    cells = both_cells w new w.group lines from last pair.cells;
    reached = reached_fewer (reach_of w) (reach_of new) (reach_of last) last.group w.group new.group size fewer up pair.reached;
  }
    where
      fewer : IsSubset (reach_of new) (reach_of w)
      fewer b h = subst (λ s. Has s b) (sym (reach_is w)) (⊎_elim
          (λ k. in_union_left o (union_of w) w.freeing b (fewer_blocks b k))
          (λ k. in_union_right o (union_of w) w.freeing b (subst (λ s. Has s b) freeing k))
          (from_union o (union_of new) new.freeing b (subst (λ s. Has s b) (reach_is new) h)))

  -- what is lost joins `freeing`
  module _ (systems : AreFileSystems new.file_systems new.group) (freeing : new.freeing ≡ w.freeing) where
    union_after : union_of (with_losses w new) ≡ union_of new
    union_after = union-fields (with_losses w new) new refl

    kept : (union (union_of new) (union w.freeing (difference (union_of w) (union_of new))) ≡ union (union_of w) w.freeing)
        × AreDisjoint (union_of new) (union w.freeing (difference (union_of w) (union_of new)))
    kept = freeing_keeps_reach (union_of w) (union_of new) w.freeing fewer_blocks good.freeing_apart

    -- the reached blocks stay
    pub losses_reach : reach_of (with_losses w new) ≡ reach_of w
    losses_reach =
        reach_is (with_losses w new) ∙ (λ i. union (union_after i) (union (freeing i) (difference (union_of w) (union_of new)))) ∙ kept.0 ∙ sym (reach_is w)

    pub world_losses : IsWorld size (with_losses w new)
    world_losses = record {
      systems = systems;
      trees = trees_from w (with_losses w new) w.group lines from size good.trees;
      freeing_apart = λ b h k. kept.1 b (subst (λ s. Has s b) union_after h)
          (subst (λ s. Has (union s (difference (union_of w) (union_of new))) b) freeing k);
    }

    pub pair_losses : (last : World) → w.group ≤ new.group → ArePaired size w last → ArePaired size (with_losses w new) last
    pair_losses last up pair = record {
      cells = both_cells w (with_losses w new) w.group lines from last pair.cells;
      reached = reached_fewer (reach_of w) (reach_of (with_losses w new)) (reach_of last) last.group w.group new.group size
          (λ b h. subst (λ s. Has s b) losses_reach h) up pair.reached;
    }
