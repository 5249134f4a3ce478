-- Which numbers may be written.
use Rattle.std.specs.Prelude.{◌≡◌, ℕ, List, Some, slice_get}
use Rattle.base.specs.Map.{Block, BlockSet}
use Rattle.world.specs.Sets.{Has}
use Rattle.zalloc.specs.declared.BlockState.{BlockState}
use Rattle.zalloc.specs.declared.BlockState.TheVariants.{Allocated}

-- just the numbers of the blocks of this set are Allocated (profile)
pub record KeepsJust (blocks : BlockSet) (kept : List BlockState) : Type 0 where
  pub each : (b : Block) → Has blocks b → slice_get kept b.number ≡ Some Allocated
  pub only : (n : ℕ) → slice_get kept n ≡ Some Allocated → (b : Block) × Has blocks b × (b.number ≡ n)
