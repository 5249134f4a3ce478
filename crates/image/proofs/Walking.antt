-- The walks of a pool's image: of both worlds between two steps, and of the last synced one at each moment of a step's writes.
use Rattle.std.proofs.Common.{◌≡◌, ◌≤◌, ◌<◌, ◌^◌, ◌*◌, ℕ, List, Option, Some, None, length, take, refl, sym, subst, ◌∙◌, arith}
use Rattle.std.specs.Prelude.{IfSome, slice_get}
use Rattle.std.specs.FinMap.{get}
use Rattle.base.specs.declared.number.Key.{Key}
use Rattle.base.specs.Map.{Map, Cell, IsTree, HasBytes, Block, block_of, contents}
use Rattle.model.specs.State.{State}
use Rattle.model.specs.World.{World, Dataset, map_of, union_of, reach_of}
use Rattle.tree.specs.Asking.{AreAllocated}
use Rattle.world.specs.Sets.{Has}
use Rattle.world.specs.Blocks.{block_order as o}
use Rattle.world.specs.Worlds.{IsWorld, IsPoolState, InNow, InLast}
use Rattle.world.proofs.lineage.Bridge.{in_world}
use Rattle.world.proofs.lists.SetCounts.{in_union_left}
use Rattle.world.proofs.maps.Cells.{in_blocks}
use Rattle.zalloc.specs.declared.BlockState.{BlockState}
use Rattle.zalloc.specs.declared.BlockState.TheVariants.{Allocated}
use Rattle.image.specs.HasBlocks.{IsWritable, AreBirthsRising, root_of}
use Rattle.image.specs.Image.{AreOpen}
use Rattle.image.specs.ImageBlocks.{block_at}
use Rattle.image.specs.ImageWalk.{walk}
use Rattle.image.specs.BlockWrites.{blocks_put, images_put}
use Rattle.image.proofs.Moments.{blocks_of_put, walked_at_moment}
use Rattle.image.proofs.Walked.{walked}
use Rattle.image.specs.Opened.{KeepsJust}
use Rattle.image.specs.Stored.{AreStored, IsStored, AllWalk}

-- a cell of a dataset is reached
pub cell_reached : (size : ℕ) (w : World) → IsWorld size w → (d : Dataset) (k : Key) (c : Cell) → get (map_of w d) k ≡ Some c → Has (reach_of w) (block_of c)
unfolding reach_of
cell_reached size w good d k c there = in_union_left o (union_of w) w.freeing (block_of c) (in_world w w.group good.systems.lines d (block_of c) (in_blocks (map_of w d) k c there))

writable : (size group : ℕ) (w : World) → IsWorld size w → ((b : Block) → Has (reach_of w) b → b.birth ≤ group) → size < 2 ^ 64 → group < 2 ^ 64 → (d : Dataset) → AreBirthsRising (map_of w d) → IsWritable size (map_of w d)
writable size group w good born few low d rises = record {
  tree = good.trees d;
  rising = rises;
  few = few;
  births = λ k c there. let b = born (block_of c) (cell_reached size w good d k c there) in omega (arith, b, low);
}

-- the numbers of a dataset of the last synced world are kept
kept_dataset : (size : ℕ) (w : World) (kept : List BlockState) → IsWorld size w → KeepsJust (reach_of w) kept → (d : Dataset) → AreAllocated (map_of w d) kept
kept_dataset size w kept good keeps d k = at (get (map_of w d) k) refl
  where
    at : (x : Option Cell) → get (map_of w d) k ≡ x → IfSome x (λ (c : Cell). slice_get kept c.number ≡ Some Allocated)
    at None e = tt
    at (Some c) e = keeps.each (block_of c) (cell_reached size w good d k c e)

module _ (s : State) (good : IsPoolState s) (few : s.size < 2 ^ 64) (low : s.now.group < 2 ^ 64) where
  last_born : (b : Block) → Has (reach_of s.last) b → b.birth ≤ s.last.group
  last_born b h = let l = good.pair.reached.since.older b h in omega (arith, l)

  last_low : s.last.group < 2 ^ 64
  last_low = let l = good.pair.reached.since.later in omega (arith, l, low)

  module _ (image : ℕ → List ℕ) (stored : IsStored s image) where
    now_writable : (d : Dataset) → IsWritable s.size (map_of s.now d)
    now_writable d = writable s.size s.now.group s.now good.now good.pair.reached.born few low d (stored.rising (InNow d))

    last_writable : (d : Dataset) → IsWritable s.size (map_of s.last d)
    last_writable d = writable s.size s.last.group s.last good.last last_born few last_low d (stored.rising (InLast d))

    pub walks_now : AllWalk image s.size s.now
    walks_now d = walked image s.size (map_of s.now d) (stored.blocks (InNow d)) (now_writable d)

    pub walks_last : AllWalk image s.size s.last
    walks_last d = walked image s.size (map_of s.last d) (stored.blocks (InLast d)) (last_writable d)

  -- after each of the writes of a step
  pub walks_at_each_moment : (kept : List BlockState) (bytes : List ℕ) (ws : List (ℕ × List ℕ)) → IsStored s (block_at bytes) → KeepsJust (reach_of s.last) kept → length kept ≡ s.size → length bytes ≡ 512 * length kept
      → AreOpen kept ws → (i : ℕ) → AllWalk (block_at (images_put bytes (take i ws))) s.size s.last
  walks_at_each_moment kept bytes ws stored keeps long size allowed i d =
      subst (λ n. walk (block_at (images_put bytes (take i ws))) n (root_of (map_of s.last d)) ≡ Some (contents (map_of s.last d))) long
      (walked_at_moment kept bytes ws (map_of s.last d) size allowed (kept_dataset s.size s.last kept good.last keeps d)
      (subst (λ n. IsWritable n (map_of s.last d)) (sym long) (last_writable (block_at bytes) stored d)) (stored.blocks (InLast d)) i)

-- what the blocks after writes are is what the bytes are
pub bytes_stored : {D : Type 0} (maps : D → Map) (kept : List BlockState) (bytes : List ℕ) (ws : List (ℕ × List ℕ)) → length bytes ≡ 512 * length kept → AreOpen kept ws → ((d : D) → IsTree (length kept) (maps d))
    → AreStored maps (blocks_put (block_at bytes) ws) → AreStored maps (block_at (images_put bytes ws))
bytes_stored maps kept bytes ws size allowed trees stored = record {
  blocks = λ d k c there.
      blocks_of_put kept bytes ws c.number size allowed (subst (λ o. IfSome o (λ (c : Cell). (c.number < length kept) × HasBytes k c)) there ((trees d).cells k)).0
      ∙ stored.blocks d k c there;
  rising = stored.rising;
}
