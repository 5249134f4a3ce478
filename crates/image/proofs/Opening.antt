-- What was born since the last sync may be written.
use Rattle.std.proofs.Common.{◌≡◌, ◌≤◌, ℕ, List, length, ap, arith}
use Rattle.base.specs.Map.{Block, BlockSet}
use Rattle.world.specs.Sets.{Has}
use Rattle.world.specs.Blocks.{block_order as o}
use Rattle.world.specs.Worlds.{AreReached}
use Rattle.world.proofs.lists.SetCounts.{in_union_left, in_union_right}
use Rattle.zalloc.specs.declared.BlockState.{BlockState}
use Rattle.image.specs.Image.{IsOpen}
use Rattle.image.specs.Opened.{KeepsJust}

-- a block of the present world that was born since the last sync
pub young_open : (now last : BlockSet) (synced group size : ℕ) (kept : List BlockState) → AreReached now last synced group size → KeepsJust last kept → length kept ≡ size
    → (b : Block) → Has now b → synced ≤ b.birth → IsOpen kept b.number
young_open now last synced group size kept reached keeps long b there late = record {
  within = let small = reached.small b (in_union_left o now last b there) in omega (arith, small, long);
  unkept = λ e.
      let k = keeps.only b.number e in
      let same : k.0 ≡ b = reached.unique k.0 b (in_union_right o now last k.0 k.1) (in_union_left o now last b there) k.2 in
      let older = reached.since.older k.0 k.1 in
      let birth : k.0.birth ≡ b.birth = ap (λ (x : Block). x.birth) same in
      absurd (omega (arith, older, birth, late));
}
