-- The other places of a node.
use Rattle.std.specs.Prelude.{◌≡◌, ◌<◌, ℕ, true, List, Option, None, length, is_some, slice_index_or}

-- a place beside this one has a part (profile)
pub record HasOther {A : Type 0} (place : ℕ) (kids : List (Option A)) : Type 0 where
  pub at : ℕ
  pub other : ¬ (at ≡ place)
  pub within : at < length kids
  pub there : is_some (slice_index_or kids at None) ≡ true
