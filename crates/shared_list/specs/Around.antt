-- What stands around a place of a list (profile).
use Rattle.std.specs.Prelude.{◌≡◌, ℕ, ◌+◌, ◌≤◌, List, None, length, take, slice_get}
use Rattle.std.specs.List.{last_or}
use Rattle.std.specs.Option.{option_copied}
use Rattle.shared_list.specs.declared.around.Around.{Around}

-- what stands around place i of a list
pub record IsAround {X : Type 0} (xs : List X) (i : ℕ) (a : Around X) : Type 0 where
  -- the place is one of the elements' or the one behind them
  pub within : i ≤ length xs
  -- the last of those before the place, and none where the first one stands there
  pub before : option_copied a.before ≡ last_or None (take i xs)
  -- the one that stands there, and none where the place is behind all
  pub at : option_copied a.at ≡ slice_get xs i
  -- the one that stands next to it, and none where there is no further one
  pub after : option_copied a.after ≡ slice_get xs (i + 1)
