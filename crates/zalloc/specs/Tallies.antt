-- Runs of numbers.
use Rattle.std.specs.Prelude.{◌≢◌, ℕ, ◌<◌, ◌≤◌, List, Some, slice_get}
use Rattle.zalloc.specs.declared.BlockState.{BlockState}
use Rattle.zalloc.specs.declared.BlockState.TheVariants.{Free}

-- no number from a on and below b is Free [profile]
abbrev pub IsTaken : List BlockState → ℕ → ℕ → Type 0
IsTaken states a b = (k : ℕ) → a ≤ k → k < b → slice_get states k ≢ Some Free
