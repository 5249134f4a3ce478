-- How many blocks of a pool are in each state.
use Rattle.std.specs.Prelude.{◌≡◌}
use Rattle.zalloc.specs.declared.Counts.{Counts}
use Rattle.model.specs.State.{State}
use Rattle.model.specs.Sums.{allocated_of, free_of, waiting_count}

-- they are as many as are allocated, free and waiting (zpoolprops(7): allocated, free; waiting is profile)
pub record IsCountOf (s : State) (counts : Counts) : Type 0 where
  pub allocated : counts.allocated ≡ allocated_of s
  pub free : counts.free ≡ free_of s
  pub waiting : counts.waiting ≡ waiting_count s
