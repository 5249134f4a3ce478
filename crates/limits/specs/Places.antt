-- Where parents stand among names.
use Rattle.std.specs.Prelude.{◌≡◌, ◌<◌, ℕ, List, [], Some, length, slice_index_or}
use Rattle.base.specs.Names.{parent_of}

-- the parent of the name at one place stands at another (zfs(8))
pub record IsParentAt (names : List (List ℕ)) (child parent : ℕ) : Type 0 where
  pub within : parent < length names
  pub named : parent_of (slice_index_or names child []) ≡ Some (slice_index_or names parent [])
