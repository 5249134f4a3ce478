-- Taking a list of Free numbers.
use Rattle.std.specs.Prelude.{◌≡◌, ℕ, List, [], ◌∷◌, Some, slice_get, slice_set}
use Rattle.zalloc.specs.declared.BlockState.{BlockState}
use Rattle.zalloc.specs.declared.BlockState.TheVariants.{Free, Allocated}

-- each number is Free, and none stands twice (profile)
abbrev pub AllFree : List BlockState → List ℕ → Type 0
AllFree states [] = Unit {0}
AllFree states (n ∷ ns) = (slice_get states n ≡ Some Free) × AllFree (slice_set states n Allocated) ns

-- the states once each number is Allocated (profile)
abbrev pub takes : List BlockState → List ℕ → List BlockState
takes states [] = states
takes states (n ∷ ns) = takes (slice_set states n Allocated) ns
