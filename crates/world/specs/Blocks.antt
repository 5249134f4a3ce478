-- Sets of blocks, cut by birth.
use Rattle.std.specs.Prelude.{ℕ, ltb, leb}
use Rattle.std.specs.FinSet.{retain}
pub use Rattle.base.specs.Map.{Block, BlockSet, block_cmp}
use Rattle.base.specs.Map.{block_cmp_total, block_cmp-IsAntisymmetric}
use Rattle.world.specs.Sets.{IsExactOrder}

-- blocks by number, and then by birth (profile)
pub block_order : IsExactOrder block_cmp
block_order = record { total = block_cmp_total; exact = block_cmp-IsAntisymmetric }

-- the blocks born after the cut, and the others (profile)
abbrev pub after : ℕ → BlockSet → BlockSet
after cut s = retain s (λ b. ltb cut b.birth)

-- those born by the cut (profile)
abbrev pub upto : ℕ → BlockSet → BlockSet
upto cut s = retain s (λ b. leb b.birth cut)
