-- What datasets have is no more than all of them have together.
use Rattle.std.proofs.Common.{◌≡◌, ◌≤◌, ℕ, List, [], ◌∷◌, map, Some, refl, inl, inr, ⊎_elim, arith}
use Rattle.std.specs.FinMap.{get}
use Rattle.std.specs.FinSet as set
use Rattle.base.specs.Map.{Map, BlockSet, blocks}
use Rattle.base.specs.Surveys.{IsIn}
use Rattle.model.specs.World.{World, FileSystem, Snap, SnapId, maps_of, blocks_of_all, union_of}
use Rattle.model.specs.Sums.{size_without, would_free}
use Rattle.world.specs.Sets.{IsSubset}
use Rattle.world.specs.Blocks.{block_order as o}
use Rattle.world.proofs.lineage.Bridge.{in_union_of}
use Rattle.world.proofs.lists.SetCounts.{no-empty, from_union, len-difference, len-subset}

module _ (w : World) where
  -- what of the blocks of datasets others haven't
  part_fits : (a b : BlockSet) → IsSubset a (union_of w) → size_without a b ≤ set.len (union_of w)
  part_fits a b inside =
      let d = len-difference o a b in
      let l = len-subset o a (union_of w) inside in
      omega (arith, d, l)

  -- what would be freed with some snapshots (zfs-destroy(8), -nv)
  pub would_free_fits : (ids : List SnapId) → would_free w ids ≤ set.len (union_of w)
  unfolding would_free
  would_free_fits ids = part_fits (union_of w) _ (λ _ h. h)

  module _ (name : List ℕ) (f : FileSystem) (was : get w.file_systems name ≡ Some f) where
    inside : (ts : List Snap) → ((m : Map) → IsIn (map (λ (t : Snap). t.map) ts) m → IsIn (maps_of f) m) → IsSubset (blocks_of_all (map (λ (t : Snap). t.map) ts)) (union_of w)
    inside [] among k h = absurd (no-empty o k h)
    inside (t ∷ ts) among k h = ⊎_elim
        (λ i. in_union_of w name f t.map k was (among t.map (inl refl)) i)
        (λ i. inside ts (λ m j. among m (inr j)) k i)
        (from_union o (blocks t.map) (blocks_of_all (map (λ (t : Snap). t.map) ts)) k h)

    -- what snapshots of a file system have and others haven't (zfsprops(7): usedbysnapshots)
    pub snapshots_fit : (b : BlockSet) → size_without (blocks_of_all (map (λ t. t.map) f.snaps)) b ≤ set.len (union_of w)
    snapshots_fit b = part_fits (blocks_of_all (map (λ t. t.map) f.snaps)) b (inside f.snaps (λ m i. inr i))
