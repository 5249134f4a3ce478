-- The states of a pool's numbers where all is synced.
use Rattle.std.specs.Prelude.{ℕ, List, map}
use Rattle.std.specs.List.{range_with_len}
use Rattle.zalloc.specs.declared.BlockState.{BlockState}
use Rattle.model.specs.World.{World, reach_of}
use Rattle.steps.specs.Settles.{state_at}

-- the states of so many numbers where this is the present world and the last synced one (profile)
abbrev pub synced_numbers : ℕ → World → List BlockState
synced_numbers size w = map (state_at (reach_of w) (reach_of w)) (range_with_len 0 size)
