-- What an allocator keeps.
use Rattle.std.specs.Prelude.{◌≡◌, ℕ, ◌<◌, Bool, true, false, List, map, count_by}
use Rattle.std.specs.List.{range_with_len}
use Rattle.zalloc.specs.declared.BlockState.{BlockState}
use Rattle.zalloc.specs.declared.BlockState.TheVariants.{Free, Allocated, Waiting}
use Rattle.zalloc.specs.declared.set.NumberSet.{NumberSet}
use Rattle.zalloc.specs.declared.Allocator.TheInside.{Inside}
use Rattle.zalloc.specs.Sets.{IsKept, is_held}
use Rattle.zalloc.specs.States.{is_free, is_waiting}

-- the state of a number that the Free ones have, or not, and the Waiting ones
abbrev pub state_from : Bool → Bool → BlockState
state_from true w = Free
state_from false true = Waiting
state_from false false = Allocated

-- the state of each number
abbrev pub states_from : NumberSet → NumberSet → List BlockState
states_from free waiting = map (λ k. state_from (is_held free k) (is_held waiting k)) (range_with_len 0 free.numbers)

-- both sets are kept, no number is in both, and the counts are those of the states [profile]
pub record IsCounted (a : Inside) : Type 0 where
  pub free : IsKept a.free
  pub waiting : IsKept a.waiting
  pub same : a.waiting.numbers ≡ a.free.numbers
  pub apart : (k : ℕ) → k < a.free.numbers → is_held a.free k ≡ true → is_held a.waiting k ≡ false
  pub free_count : a.free_count ≡ count_by is_free (states_from a.free a.waiting)
  pub waiting_count : a.waiting_count ≡ count_by is_waiting (states_from a.free a.waiting)
