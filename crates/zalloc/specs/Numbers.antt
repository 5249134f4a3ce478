-- The states of numbers, now and as a sync left them.
use Rattle.std.specs.Prelude.{List}
use Rattle.zalloc.specs.declared.BlockState.{BlockState}

-- the state of each number, and the one that the end of the last group left [profile]
pub record NumberStates : Type 0 where
  pub present : List BlockState
  pub synced : List BlockState
