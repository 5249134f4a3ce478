-- What a change asks of its caller.
use Rattle.std.specs.Prelude.{◌≤◌, ℕ, List, IfSome}
use Rattle.std.specs.FinMap.{get}
use Rattle.base.specs.declared.number.Key.{Key}
use Rattle.base.specs.Map.{Map}
use Rattle.zalloc.specs.declared.BlockState.{BlockState}
use Rattle.batch.specs.declared.update.Update.{Update}
use Rattle.batch.specs.Updates.{IsBatch}
pub use Rattle.batch.specs.Room.{AreAllocated, IsNoSpaceOrNoMemory}

-- no block of a map was born after a group (On-Disk Specification, chapter 2)
abbrev pub AreBornBy : Map → ℕ → Type 0
AreBornBy m g = (k : Key) → IfSome (get m k) (λ c. c.birth ≤ g)

-- these updates of a map can be made in group g, with the blocks young that were born from group y on, where the numbers have these states: they are a batch, y is not past g, no block is from a later group, and each block's number is Allocated (profile)
pub record AllowsChange (m : Map) (us : List Update) (g y : ℕ) (states : List BlockState) : Type 0 where
  pub batch : IsBatch us
  pub young : y ≤ g
  pub born : AreBornBy m g
  pub allocated : AreAllocated m states
