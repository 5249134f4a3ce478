-- What is lost where a table gives way to another.
use Rattle.std.specs.Prelude.{◌≡◌}
use Rattle.std.specs.FinSet as set
use Rattle.base.specs.Map.{blocks}
use Rattle.file_system.specs.declared.lost.Lost.{Lost}
use Rattle.world.specs.Blocks.{after}
use Rattle.world.specs.Tables.{Datasets, lost_between}

-- The blocks of the tree that were born after its group are those that the datasets of one table have and those of the other haven't, and
-- they are that many (On-Disk Specification, chapter 4: ds_prev_snap_txg)
pub record Loses (old new : Datasets) (lost : Lost) : Type 0 where
  pub blocks_are : after lost.after.0 (blocks lost.tree) ≡ lost_between old new
  pub counted : lost.count ≡ set.len (lost_between old new)
