-- What waits: the blocks that the last synced world reaches and the present one does not.
use Rattle.std.specs.Prelude.{ℕ, ◌<◌, ◌≤◌}
use Rattle.world.specs.Sets.{Has}
use Rattle.world.specs.Blocks.{Block, BlockSet}

-- What holds between the blocks that the last synced world reaches, whose open group is `synced`, and those that the present one reaches, whose open group is `open_group` (profile)
pub record IsSince (last now : BlockSet) (synced open_group : ℕ) : Type 0 where
  pub older : (b : Block) → Has last b → b.birth < synced
  pub later : synced ≤ open_group
  pub stays : (b : Block) → Has now b → b.birth < synced → Has last b
