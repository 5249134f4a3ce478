-- Two allocators of the same numbers.
use Rattle.std.specs.Prelude.{◌≡◌, ◌≢◌, ◌⊎◌, ℕ, ◌+◌, ◌/◌, List, Bool, true, Some, slice_get, length}
use Rattle.zalloc.specs.declared.BlockState.{BlockState}
use Rattle.zalloc.specs.declared.BlockState.TheVariants.{Waiting}
use Rattle.zalloc.specs.declared.set.TheConstants.{WINDOW}
use Rattle.zalloc.specs.declared.numbers.Numbers.TheInside.{Inside}

-- the states are the same but where a number of the window was touched [profile]
abbrev pub AreSameBut : List Bool → List BlockState → List BlockState → Type 0
AreSameBut touched a b = (k : ℕ) → (slice_get a k ≡ slice_get b k) ⊎ (slice_get touched (k / WINDOW) ≡ Some true)

-- no number waits for the end of a group [profile]
abbrev pub NoneWaits : List BlockState → Type 0
NoneWaits states = (k : ℕ) → slice_get states k ≢ Some Waiting

-- both have as many numbers, with a flag for each window, and are the same but for what was touched; none waits in the synced one [profile]
pub record IsPaired (m : Inside) : Type 0 where
  pub len : length m.synced ≡ length m.present
  pub flags : length m.touched ≡ length m.present / WINDOW + 1
  pub same : AreSameBut m.touched m.present m.synced
  pub none_waits : NoneWaits m.synced
